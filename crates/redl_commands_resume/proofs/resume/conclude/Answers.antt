use Rattle.std.proofs.Common.{◌∙◌, sym}
use Rattle.std.proofs.lemmas.Result.{err_from_is_err_and}
use Rattle.redl_commands_resume.proofs.ResumeLaws.{conclude_differs, conclude_fails, conclude_ok}
use Rattle.redl_commands_resume.specs.Inside.FirstSittings.{joined_view}
use Rattle.redl_inputs.specs.Views.{document_view}
use Rattle.redl_commands_resume.proofs.resume.conclude.Goals as goal

pub returns-in_err-text : goal.returns-in_err-text
returns-in_err-text c = λ one of_document were again.
    let p = err_from_is_err_and c.from_residual.result c.from_residual.ensures.1 in
    rw (p.1, p.2) (conclude_fails c.args.bytes.now one again (joined_view c.args.joined) _ c.in_err-text.ensures)

pub returns-then-not-is_same : goal.returns-then-not-is_same
returns-then-not-is_same c = λ one of_document were again.
    conclude_differs c.args.bytes.now one again (joined_view c.args.joined) c.in_ok-text.text.items c.in_ok-text.ensures
    (rw (c.deref.ensures.value, c.deref-2.ensures.value) at (sym c.is_same.ensures ∙ c.if-not-is_same.true))

pub returns : goal.returns
returns c = λ one of_document were again.
    rw (c.new.ensures.items, c.new-2.ensures.items) (conclude_ok c.args.bytes.now one again (document_view c.args.document) c.args.refused (joined_view c.args.joined) c.in_ok-text.text.items of_document were c.in_ok-text.ensures
    (rw (c.deref.ensures.value, c.deref-2.ensures.value) at (sym c.is_same.ensures ∙ c.if-not-is_same.false)))
