use Rattle.std.proofs.Common.{◌≡◌, drop, map}
use Rattle.redl_relations.specs.Names.{after_steps}
use Rattle.redl_relations.proofs.names.take_steps.Given as goal

-- the steps that are left lead to the same place
abbrev pub invariant-loop-step : goal.invariant-loop-step
invariant-loop-step l =
    after_steps (map (λ step. step.now) l.at.items) (map (λ step. step.now) (drop l.step-index l.steps))
    ≡ after_steps (map (λ step. step.now) l.initial.at.items) (map (λ step. step.now) l.steps)
