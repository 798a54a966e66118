use Rattle.std.proofs.Common.{◌≡◌}
use Rattle.redl_properties.specs.Values.{are_same_upto}
use Rattle.redl_edits.proofs.same.are_same.Given as goal

abbrev pub invariant-loop-place : goal.invariant-loop-place
invariant-loop-place l = l.same ≡ are_same_upto l.one l.two l.place
