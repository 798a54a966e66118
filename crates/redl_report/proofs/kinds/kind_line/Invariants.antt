use Rattle.std.proofs.Common.{◌≡◌, map, take}
use Rattle.std.specs.Map.Iter.{deref}
use Rattle.redl_index.specs.declared.revision.Revision.{Revision}
use Rattle.redl_join.specs.Verdicts.{verdict_at}
use Rattle.redl_report.specs.declared.line.Role.TheVariants.{Kind}
use Rattle.redl_report.specs.Reports.{line_of, of_kind}
use Rattle.redl_report.proofs.kinds.kind_line.Given as goal

-- the revisions of the kind so far are counted
abbrev pub invariant-loop-revision : goal.invariant-loop-revision
invariant-loop-revision l =
    l.line ≡ line_of (Kind l.kind) l.name (map (λ (revision : Revision). verdict_at l.book revision.number) (of_kind l.kind (map deref (take l.revision-index l.own))))
