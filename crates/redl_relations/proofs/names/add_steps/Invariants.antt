use Rattle.std.proofs.Common.{◌≡◌, ◌++◌, drop, map}
use Rattle.std.specs.List.{flat_map}
use Rattle.redl_relations.specs.Names.{after_slash}
use Rattle.redl_relations.proofs.names.add_steps.Given as goal

-- the name so far, and then the steps that are left
abbrev pub invariant-loop-step : goal.invariant-loop-step
invariant-loop-step l =
    l.name.items ++ flat_map after_slash (map (λ step. step.now) (drop l.step-index l.steps))
    ≡ l.initial.name.items ++ flat_map after_slash (map (λ step. step.now) l.steps)
