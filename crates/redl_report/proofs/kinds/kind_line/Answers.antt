-- There is room for a revision more of the kind.
use Rattle.std.proofs.Common.{◌+◌, ◌≤◌, map, take, drop, length, sym, arith}
use Rattle.std.proofs.lemmas.List.{length-map}
use Rattle.std.specs.Map.Iter.{deref}
use Rattle.redl_index.specs.declared.revision.Revision.{Revision}
use Rattle.redl_join.specs.Verdicts.{verdict_at}
use Rattle.redl_report.specs.declared.line.Role.TheVariants.{Kind}
use Rattle.redl_report.specs.Reports.{of_kind}
use Rattle.redl_report.proofs.KindLaws.{of_kind-few, of_kind-split}
use Rattle.redl_report.proofs.LineLaws.{room}
use Rattle.redl_report.proofs.ListLaws.{map-split-at}
use Rattle.redl_report.proofs.kinds.kind_line.Goals as goal

pub count-requires : goal.count-requires
count-requires c =
    let place = c.loop-revision.revision-index in
    let own = c.args.own.now in
    let kind = c.args.kind in
    let revision = c.revision-item.result in
    let few : length (map deref own) ≤ 4294967295 = omega (arith, length-map own deref, c.requires) in
    let whole = of_kind-split kind (map deref (take place own)) (map deref (drop (place + 1) own)) (map deref own) revision.now (sym c.if-is_same_kind.ensures) (map-split-at deref own place revision c.loop-revision-test.true c.revision-item.is) in
    room (λ (revision : Revision). verdict_at c.args.book.now revision.number) (Kind kind) c.args.name.now c.loop-revision.line (of_kind kind (map deref (take place own))) (of_kind kind (map deref (drop (place + 1) own))) (of_kind kind (map deref own))
    revision.now 4294967295 c.loop-revision.invariant whole (of_kind-few kind (map deref own) 4294967295 few)
