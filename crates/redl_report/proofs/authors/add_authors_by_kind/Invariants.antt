use Rattle.std.proofs.Common.{◌≡◌, ◌++◌, ◌≤◌, length, map}
use Rattle.std.specs.List.{AllByRecursion, flat_map}
use Rattle.redl_report.specs.Groups.{group_at, grouped}
use Rattle.redl_report.specs.Reports.{author_lines, author_of}
use Rattle.redl_report.proofs.authors.add_authors_by_kind.Given as goal

-- the lines so far and those of the rest are all of them
abbrev pub invariant-loop-name : goal.invariant-loop-name
invariant-loop-name l = record {
  lines : l.lines.items ++ flat_map (author_lines l.book) (map group_at l.name-iterator) ≡ l.fn.lines.items ++ flat_map (author_lines l.book) (grouped author_of l.revisions);
  few : AllByRecursion (λ group. length group.items ≤ length l.revisions) (map group_at l.name-iterator);
}
