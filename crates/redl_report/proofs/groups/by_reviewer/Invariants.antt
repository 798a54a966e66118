use Rattle.std.proofs.Common.{◌≡◌, ◌++◌, map}
use Rattle.std.specs.Map.Iter.{deref}
use Rattle.redl_report.specs.Groups.{grouped, groups_in}
use Rattle.redl_report.specs.Reports.{reviewer_of}
use Rattle.redl_report.proofs.groups.by_reviewer.Given as goal

-- the entries so far are in their groups
abbrev pub invariant-loop-entry : goal.invariant-loop-entry
invariant-loop-entry l = record {
  whole : map deref l.yielded ++ l.entry-iterator ≡ l.book;
  groups : groups_in l.groups ≡ grouped reviewer_of (map deref l.yielded);
}
