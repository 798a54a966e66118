use Rattle.std.proofs.Common.{◌≡◌, ◌++◌}
use Rattle.redl_properties.specs.Said.{leaves_upto}
use Rattle.redl_properties.proofs.said.push_leaves.Given as goal

abbrev pub invariant-loop-place : goal.invariant-loop-place
invariant-loop-place l = l.line.items ≡ l.initial.line.items ++ leaves_upto l.way l.leaves l.place
