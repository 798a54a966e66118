use Rattle.std.proofs.Common.{◌≡◌, ◌++◌, map}
use Rattle.std.specs.List.{AllByRecursion}
use Rattle.redl_report.specs.Groups.{group_at, grouped}
use Rattle.redl_report.specs.Reports.{reviewer_line, reviewer_of}
use Rattle.redl_report.proofs.OwnLaws.{IsOwn}
use Rattle.redl_report.proofs.reviewers.add_reviewers.Given as goal

-- the lines so far and those of the rest are all of them
abbrev pub invariant-loop-name : goal.invariant-loop-name
invariant-loop-name l = record {
  lines : l.lines.items ++ map (reviewer_line l.count) (map group_at l.name-iterator) ≡ l.fn.lines.items ++ map (reviewer_line l.count) (grouped reviewer_of l.book);
  own : AllByRecursion IsOwn (map group_at l.name-iterator);
}
