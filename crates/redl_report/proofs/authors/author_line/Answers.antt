-- A revision more is counted, and there is room for it.
use Rattle.std.proofs.Common.{◌≤◌, ◌∙◌, ◌+◌, map, take, drop, length, sym, ap, arith}
use Rattle.std.proofs.lemmas.List.{length-map, map_push}
use Rattle.std.specs.Map.Iter.{deref}
use Rattle.redl_index.specs.declared.revision.Revision.{Revision}
use Rattle.redl_join.specs.declared.verdict.Verdict.{Verdict}
use Rattle.redl_join.specs.Verdicts.{verdict_at}
use Rattle.redl_report.specs.declared.line.ReportLine.{ReportLine}
use Rattle.redl_report.specs.declared.line.Role.TheVariants.{Author}
use Rattle.redl_report.specs.Counts.{with_verdict}
use Rattle.redl_report.specs.Reports.{line_of}
use Rattle.redl_report.proofs.LineLaws.{line-more, room}
use Rattle.redl_report.proofs.ListLaws.{map-split-at, map-take-more}
use Rattle.redl_report.proofs.authors.author_line.Goals as goal

pub count-requires : goal.count-requires
count-requires c =
    let place = c.loop-revision.revision-index in
    let own = c.args.own.now in
    let few : length (map deref own) ≤ 4294967295 = omega (arith, length-map own deref, c.requires) in
    room (λ (revision : Revision). verdict_at c.args.book.now revision.number) Author c.args.name.now c.loop-revision.line (map deref (take place own)) (map deref (drop (place + 1) own)) (map deref own)
    c.revision-item.result.now 4294967295 c.loop-revision.invariant (map-split-at deref own place c.revision-item.result c.loop-revision-test.true c.revision-item.is) few

pub loop-revision-preserved : goal.loop-revision-preserved
loop-revision-preserved c =
    let place = c.loop-revision.revision-index in
    let own = c.args.own.now in
    let revision = c.revision-item.result in
    let seen = map deref (take place own) in
    let decide = λ (revision : Revision). verdict_at c.args.book.now revision.number in
    c.count.ensures
    ∙ ap (λ (line : ReportLine). with_verdict line c.verdict.result) c.loop-revision.invariant
    ∙ ap (λ (verdict : Verdict). with_verdict (line_of Author c.args.name.now (map decide seen)) verdict) c.verdict.ensures
    ∙ line-more Author c.args.name.now (map decide seen) (decide revision.now)
    ∙ ap (line_of Author c.args.name.now) (sym (map_push decide seen revision.now) ∙ ap (map decide) (sym (map-take-more deref own place revision c.loop-revision-test.true c.revision-item.is)))
