use Rattle.std.proofs.Common.{◌≡◌, map, take}
use Rattle.std.specs.Map.Iter.{deref}
use Rattle.redl_index.specs.declared.revision.Revision.{Revision}
use Rattle.redl_join.specs.Verdicts.{verdict_at}
use Rattle.redl_report.specs.declared.line.Role.TheVariants.{Author}
use Rattle.redl_report.specs.Reports.{line_of}
use Rattle.redl_report.proofs.authors.author_line.Given as goal

-- the revisions so far are counted
abbrev pub invariant-loop-revision : goal.invariant-loop-revision
invariant-loop-revision l = l.line ≡ line_of Author l.name (map (λ (revision : Revision). verdict_at l.book revision.number) (map deref (take l.revision-index l.own)))
