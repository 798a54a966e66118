use Rattle.std.proofs.Common.{◌≡◌}
use Rattle.redl_properties.specs.Values.{same_leaves_upto}
use Rattle.redl_edits.proofs.same.same_leaves.Given as goal

abbrev pub invariant-loop-place : goal.invariant-loop-place
invariant-loop-place l = l.same ≡ same_leaves_upto l.one l.two l.place
