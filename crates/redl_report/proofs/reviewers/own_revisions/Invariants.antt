use Rattle.std.proofs.Common.{◌≡◌, map, take}
use Rattle.std.specs.Map.Iter.{deref}
use Rattle.redl_report.specs.Reports.{revisions_on}
use Rattle.redl_report.proofs.reviewers.own_revisions.Given as goal

-- the numbers are those of the entries so far
abbrev pub invariant-loop-entry : goal.invariant-loop-entry
invariant-loop-entry l = l.numbers.keys ≡ revisions_on l.count (map deref (take l.entry-index l.own))
