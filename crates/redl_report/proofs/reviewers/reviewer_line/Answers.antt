-- A revision more is counted, and there is room for it.
use Rattle.std.proofs.Common.{◌≡◌, ◌≤◌, ◌∙◌, ℕ, List, ◌++◌, map, length, sym, ap, arith}
use Rattle.std.proofs.lemmas.List.{append-nil, map_push}
use Rattle.std.specs.Map.Iter.{deref}
use Rattle.redl_journal.specs.declared.entry.Entry.{Entry}
use Rattle.redl_join.specs.declared.verdict.Verdict.{Verdict}
use Rattle.redl_join.specs.Verdicts.{verdict_at}
use Rattle.redl_report.specs.declared.line.ReportLine.{ReportLine}
use Rattle.redl_report.specs.declared.line.Role.TheVariants.{Reviewer}
use Rattle.redl_report.specs.Counts.{with_verdict}
use Rattle.redl_report.specs.Reports.{line_of, revisions_on}
use Rattle.redl_report.proofs.LineLaws.{line-more, room}
use Rattle.redl_report.proofs.ListLaws.{moved}
use Rattle.redl_report.proofs.OwnLaws.{few-revisions}
use Rattle.redl_report.proofs.reviewers.reviewer_line.Goals as goal

pub count-requires : goal.count-requires
count-requires c =
    let own = map deref c.args.own.now in
    let few : length (revisions_on c.args.count own) ≤ 4294967295 = omega (arith, few-revisions c.args.count own) in
    room (verdict_at own) Reviewer c.args.name.now c.loop-revision.line (map deref c.loop-revision.yielded) c.next.new.self (revisions_on c.args.count own) c.in-Some.revision.now 4294967295
    c.loop-revision.invariant.line (sym c.loop-revision.invariant.whole ∙ ap (λ (left : List ℕ). map deref c.loop-revision.yielded ++ left) c.in-Some.ensures.steps) few

pub loop-revision-preserved : goal.loop-revision-preserved
loop-revision-preserved c =
    let own = map deref c.args.own.now in
    let seen = map deref c.loop-revision.yielded in
    let revision = c.in-Some.revision in
    let decided : c.verdict.result ≡ verdict_at own revision.now = c.verdict.ensures ∙ ap (λ (book : List Entry). verdict_at book revision.now) c.in_ok-book.ensures in
    record {
      whole = moved deref c.loop-revision.yielded revision c.loop-revision.revision-iterator c.next.new.self (revisions_on c.args.count own) c.in-Some.ensures.steps c.loop-revision.invariant.whole;
      line =
          c.count.ensures
          ∙ ap (λ (line : ReportLine). with_verdict line c.verdict.result) c.loop-revision.invariant.line
          ∙ ap (λ (verdict : Verdict). with_verdict (line_of Reviewer c.args.name.now (map (verdict_at own) seen)) verdict) decided
          ∙ line-more Reviewer c.args.name.now (map (verdict_at own) seen) (verdict_at own revision.now)
          ∙ ap (line_of Reviewer c.args.name.now) (sym (map_push (verdict_at own) seen revision.now) ∙ ap (map (verdict_at own)) (sym (map_push deref c.loop-revision.yielded revision)));
    }

pub returns : goal.returns
returns c =
    let own = map deref c.args.own.now in
    let all : map deref c.loop-revision.yielded ≡ revisions_on c.args.count own =
    sym (append-nil (map deref c.loop-revision.yielded)) ∙ ap (λ (left : List ℕ). map deref c.loop-revision.yielded ++ left) (sym c.in-None.ensures.steps.0) ∙ c.loop-revision.invariant.whole in
    c.loop-revision.invariant.line ∙ ap (λ (numbers : List ℕ). line_of Reviewer c.args.name.now (map (verdict_at own) numbers)) all
