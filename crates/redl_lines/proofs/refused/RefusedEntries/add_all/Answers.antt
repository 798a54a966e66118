use Rattle.std.proofs.Common.{◌≡◌, ◌∷◌, ap, sym, ◌∙◌, rules, [], refl}
use Rattle.std.proofs.lemmas.List.{nil_from_length}
use Rattle.std.specs.Vec.Iter.{into_iter_items}
use Rattle.redl_lines.specs.Refused.{with_refusals}
use Rattle.redl_lines.proofs.refused.RefusedEntries.add_all.Goals as goal

pub loop-refusal-init : goal.loop-refusal-init
loop-refusal-init c =
    let items : into_iter_items c.into_iter-refusal-iterator.result ≡ c.args.refusals.items = search rules in
    rw items refl

pub loop-refusal-preserved : goal.loop-refusal-preserved
loop-refusal-preserved c =
    let rest = into_iter_items c.next.new.self in
    let here : into_iter_items c.loop-refusal.refusal-iterator ≡ c.in-Some.refusal ∷ rest = c.in-Some.ensures.steps.0 in
    ap (λ refused. with_refusals refused rest) c.in_ok-add.ensures
    ∙ ap (with_refusals c.loop-refusal.self) (sym here) ∙ c.loop-refusal.invariant

pub returns : goal.returns
returns c =
    let none : into_iter_items c.loop-refusal.refusal-iterator ≡ [] =
    nil_from_length _ (sym c.loop-refusal.refusal-iterator.rest.ok.0 ∙ c.in-None.ensures.steps.0) in
    rw none at c.loop-refusal.invariant
