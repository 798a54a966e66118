use Rattle.std.proofs.Common.{◌≡◌, drop}
use Rattle.redl_edits.specs.Formatted.{same_changes}
use Rattle.redl_edits.proofs.same.same_changes.Given as goal

abbrev pub invariant-loop-place : goal.invariant-loop-place
invariant-loop-place l = same_changes l.one l.two ≡ same_changes (drop l.place l.one) (drop l.place l.two)
