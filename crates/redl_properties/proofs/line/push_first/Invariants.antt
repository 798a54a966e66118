use Rattle.std.proofs.Common.{◌≡◌, ◌++◌}
use Rattle.redl_properties.specs.Lines.{first_upto}
use Rattle.redl_properties.proofs.line.push_first.Given as goal

abbrev pub invariant-loop-place : goal.invariant-loop-place
invariant-loop-place l = l.line.items ≡ l.initial.line.items ++ first_upto l.told l.place
