use Rattle.std.proofs.Common.{◌≡◌, ◌++◌, map, take}
use Rattle.std.specs.Map.Iter.{deref}
use Rattle.redl_report.specs.Groups.{group_with}
use Rattle.redl_report.specs.Reports.{kind_lines}
use Rattle.redl_report.proofs.kinds.add_kinds.Given as goal

-- the lines of the kinds so far
abbrev pub invariant-loop-kind : goal.invariant-loop-kind
invariant-loop-kind l = l.lines.items ≡ l.fn.lines.items ++ kind_lines (take l.kind-index l.kinds) l.book (group_with l.name (map deref l.own))
