use Rattle.std.proofs.Common.{◌≡◌, ◌++◌, map}
use Rattle.std.specs.Map.Iter.{deref}
use Rattle.redl_join.specs.Verdicts.{verdict_at}
use Rattle.redl_report.specs.declared.line.Role.TheVariants.{Reviewer}
use Rattle.redl_report.specs.Reports.{line_of, revisions_on}
use Rattle.redl_report.proofs.reviewers.reviewer_line.Given as goal

-- the revisions so far are counted
abbrev pub invariant-loop-revision : goal.invariant-loop-revision
invariant-loop-revision l = record {
  whole : map deref l.yielded ++ l.revision-iterator ≡ revisions_on l.count (map deref l.own);
  line : l.line ≡ line_of Reviewer l.name (map (verdict_at (map deref l.own)) (map deref l.yielded));
}
