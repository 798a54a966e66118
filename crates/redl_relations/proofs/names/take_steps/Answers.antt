-- Step by step.
use Rattle.std.proofs.Common.{◌+◌, ℕ, List, ap, sym, ◌∙◌, arith, drop, map}
use Rattle.std.proofs.lemmas.List.{drop_more, drop_all}
use Rattle.redl_relations.specs.Names.{after_steps}
use Rattle.redl_relations.proofs.names.take_steps.Goals as goal

pub loop-step-preserved : goal.loop-step-preserved
loop-step-preserved c =
    let more = map (λ step. step.now) (drop (c.loop-step.step-index + 1) c.args.steps.now) in
    let old = map (λ step. step.now) c.loop-step.at.items in
    ap (λ (at : List (List ℕ)). after_steps at more) c.in_ok-take_step.ensures
    ∙ sym (ap (λ ss. after_steps old (map (λ step. step.now) ss)) (drop_more c.args.steps.now c.loop-step.step-index _ (omega arith)))
    ∙ c.loop-step.invariant

pub returns : goal.returns
returns c =
    let now = map (λ step. step.now) c.loop-step.at.items in
    sym (ap (λ ss. after_steps now (map (λ step. step.now) ss)) (drop_all c.loop-step.step-index c.args.steps.now (omega arith)))
    ∙ c.loop-step.invariant
