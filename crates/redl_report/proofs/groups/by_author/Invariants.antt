use Rattle.std.proofs.Common.{◌≡◌, take}
use Rattle.redl_report.specs.Groups.{grouped, groups_in}
use Rattle.redl_report.specs.Reports.{author_of}
use Rattle.redl_report.proofs.groups.by_author.Given as goal

-- the revisions so far are in their groups
abbrev pub invariant-loop-revision : goal.invariant-loop-revision
invariant-loop-revision l = groups_in l.groups ≡ grouped author_of (take l.revision-index l.revisions)
