use Rattle.std.proofs.Common.{◌∙◌, ap, sym}
use Rattle.std.proofs.lemmas.Bool.{eqb-true}
use Rattle.std.proofs.lemmas.List.{nil_from_length}
use Rattle.std.proofs.lemmas.Result.{err_from_is_err_and}
use Rattle.redl_inputs.proofs.LeftLaws.{admits_left, admits_left_stops}
use Rattle.redl_inputs.proofs.OpenLaws.{opens, opens_nothing}
use Rattle.redl_inputs.proofs.ReadLaws.{fails_alone}
use Rattle.redl_inputs.specs.Asking.{files_within}
use Rattle.redl_inputs.specs.Journals.{DocumentId}
use Rattle.redl_inputs.specs.Views.{admission_view}
use Rattle.redl_io.specs.Limits.{journal_bytes}
use Rattle.redl_inputs.proofs.sessions.open_package.Goals as goal

pub returns-in_err-started-clause-read : goal.returns-in_err-started-clause-read
returns-in_err-started-clause-read g c =
    let p = err_from_is_err_and c.from_residual.result c.from_residual.ensures.1 in
    rw (p.1, p.2) (fails_alone _ (files_within journal_bytes c.args.journals.now) tt (λ reader files is. tt))

pub returns-then-is_empty-clause-read : goal.returns-then-is_empty-clause-read
returns-then-is_empty-clause-read g c =
    opens_nothing _ journal_bytes _ _ c.args.journals.now (nil_from_length _ (eqb-true _ _ (sym c.is_empty.ensures ∙ c.if-is_empty.true)))
    c.in_ok-started.ensures

pub admit_journals-requires-clause-document : goal.admit_journals-requires-clause-document
admit_journals-requires-clause-document g c = c.id-document.ensures.id ∙ sym c.id-document.ensures.same

pub returns-clause-read : goal.returns-clause-read
returns-clause-read g c =
    let same = ap (λ (document : DocumentId). record (admission_view c.in_ok-started.started) { document = document }) c.id-document.ensures.same in
    opens journal_bytes c.args.journals.now _ _ (same ∙ c.in_ok-started.ensures)
    (admits_left _ journal_bytes c.args.journals.now c.in_ok-admitted.ensures.read)

pub returns-in_err-admitted-clause-read : goal.returns-in_err-admitted-clause-read
returns-in_err-admitted-clause-read g c =
    let p = err_from_is_err_and c.from_residual-in_err-admitted.result c.from_residual-in_err-admitted.ensures.1 in
    let same = ap (λ (document : DocumentId). record (admission_view c.in_ok-started.started) { document = document }) c.id-document.ensures.same in
    rw (p.1, p.2) (opens journal_bytes c.args.journals.now _ _ (same ∙ c.in_ok-started.ensures) (admits_left_stops _ journal_bytes c.args.journals.now c.in_err-admitted.ensures.read))
