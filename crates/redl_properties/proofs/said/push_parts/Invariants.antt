use Rattle.std.proofs.Common.{◌≡◌, ◌++◌}
use Rattle.redl_properties.specs.Said.{parts_upto}
use Rattle.redl_properties.proofs.said.push_parts.Given as goal

abbrev pub invariant-loop-place : goal.invariant-loop-place
invariant-loop-place l = l.line.items ≡ l.initial.line.items ++ parts_upto l.way l.attributes l.place
