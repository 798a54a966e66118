use Rattle.std.proofs.Common.{◌≤◌}
use Rattle.redl_edits.specs.Inside.Reaches.{IsDark}
use Rattle.redl_edits.proofs.dark.dark_from.Given as goal

abbrev pub invariant-loop-unit : goal.invariant-loop-unit
invariant-loop-unit l = record { few : l.from ≤ l.unit; dark : IsDark l.passed l.unit l.found }
