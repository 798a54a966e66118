-- Step by step.
use Rattle.std.proofs.Common.{◌+◌, ◌++◌, ℕ, List, ap, sym, ◌∙◌, arith, drop, map, append_assoc, append-nil}
use Rattle.std.specs.List.{flat_map}
use Rattle.std.proofs.lemmas.List.{drop_more, drop_all}
use Rattle.redl_relations.specs.Names.{after_slash}
use Rattle.redl_relations.proofs.names.add_steps.Goals as goal

pub loop-step-preserved : goal.loop-step-preserved
loop-step-preserved c =
    let more = flat_map after_slash (map (λ step. step.now) (drop (c.loop-step.step-index + 1) c.args.steps.now)) in
    let old = c.loop-step.name.items in
    ap (λ (t : List ℕ). t ++ more) c.in_ok-add_step.ensures
    ∙ append_assoc old _ more
    ∙ ap (λ (t : List ℕ). old ++ t) (sym (ap (λ ss. flat_map after_slash (map (λ step. step.now) ss)) (drop_more c.args.steps.now c.loop-step.step-index _ (omega arith))))
    ∙ c.loop-step.invariant

pub returns : goal.returns
returns c =
    let now = c.loop-step.name.items in
    sym (ap (λ ss. now ++ flat_map after_slash (map (λ step. step.now) ss)) (drop_all c.loop-step.step-index c.args.steps.now (omega arith)) ∙ append-nil now)
    ∙ c.loop-step.invariant
