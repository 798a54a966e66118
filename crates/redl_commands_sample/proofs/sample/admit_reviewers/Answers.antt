use Rattle.std.proofs.Common.{◌≡◌, ap, sym, ◌∙◌, arith}
use Rattle.redl_commands_sample.proofs.SampleLaws.{entries_more, first_entries}
use Rattle.redl_journal.specs.Journals.{Journal}
use Rattle.redl_sample.specs.Journals.{sample_journal}
use Rattle.redl_session.proofs.Admissions.{after-append}
use Rattle.redl_session.specs.Sessions.{SessionState, after}
use Rattle.redl_commands_sample.proofs.sample.admit_reviewers.Goals as goal

pub loop-reviewer-preserved : goal.loop-reviewer-preserved
loop-reviewer-preserved c =
    let number = c.args.number in
    let reviewer = c.loop-reviewer.reviewer in
    let begun = c.args.session.now in
    let entries = (sample_journal number reviewer).entries in
    c.in_ok-admit_each.ensures.after
    ∙ ap (after c.loop-reviewer.session) (ap (λ (j : Journal). j.entries) c.in_ok-journal.ensures.journal)
    ∙ ap (λ (state : SessionState). after state entries) c.loop-reviewer.invariant
    ∙ sym (after-append begun (first_entries number reviewer) entries)
    ∙ ap (after begun) (sym (entries_more number reviewer))

pub returns : goal.returns
returns c =
    let all : c.loop-reviewer.reviewer ≡ 3 = omega (arith, c.loop-reviewer.auto.reviewer-end, c.loop-reviewer-test.false) in
    c.loop-reviewer.invariant ∙ ap (λ count. after c.args.session.now (first_entries c.args.number count)) all
