use Rattle.std.proofs.Common.{◌≡◌, ◌∷◌, [], sym, ap, ◌∙◌, subst, map, List}
use Rattle.std.proofs.lemmas.List.{nil_from_length}
use Rattle.std.specs.Vec.Iter.{into_iter_items}
use Rattle.redl_tree.specs.Leaves.Ways.{made_each}
use Rattle.redl_leaves.proofs.StepLaws.{Steps, steps-more}
use Rattle.redl_leaves.specs.Steps.{way_of}
use Rattle.redl_leaves.specs.View.{states_of}
use Rattle.redl_leaves.specs.declared.stepping.Made.{Made}
use Rattle.redl_leaves.proofs.stepping.step_each.Goals as goal

pub loop-one-preserved : goal.loop-one-preserved
loop-one-preserved c = λ parent above spot_is tallied made.
    let ancestors = parent ∷ above in
    let says = c.args.says.now in
    let old = states_of c.args.slots.now in
    let now = states_of c.loop-one.slots in
    let later = into_iter_items c.next.new.self in
    let here : into_iter_items c.loop-one.one-iterator ≡ c.in-Some.one ∷ later = c.in-Some.ensures.steps.0 in
    let h = subst (λ (xs : List Made). Steps says ancestors old c.args.all.items now xs) here (c.loop-one.invariant parent above spot_is tallied made) in
    steps-more says ancestors old c.args.all.items now (states_of c.step_at.new.slots) c.in-Some.one later h (c.step_at.ensures parent above spot_is h.tallied h.made.0)

pub returns : goal.returns
returns c = λ parent above spot_is tallied made.
    let ancestors = parent ∷ above in
    let none : into_iter_items c.loop-one.one-iterator ≡ [] = nil_from_length _ (sym c.loop-one.one-iterator.rest.ok.0 ∙ c.in-None.ensures.steps.0) in
    ap (λ xs. made_each c.args.says.now ancestors (map way_of xs) (states_of c.loop-one.slots)) (sym none)
    ∙ (c.loop-one.invariant parent above spot_is tallied made).becomes
