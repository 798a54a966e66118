use Rattle.std.proofs.Common.{◌∙◌, ap, sym}
use Rattle.std.proofs.lemmas.Result.{err_from_is_err_and}
use Rattle.redl_inputs.proofs.LeftLaws.{sits}
use Rattle.redl_inputs.proofs.ReadLaws.{fails_alone}
use Rattle.redl_inputs.specs.Asking.{files_within}
use Rattle.redl_inputs.specs.Journals.{DocumentId}
use Rattle.redl_inputs.specs.Views.{admission_view}
use Rattle.redl_inputs.proofs.sessions.sit.Goals as goal

pub returns-in_err-started-clause-read : goal.returns-in_err-started-clause-read
returns-in_err-started-clause-read g c =
    let p = err_from_is_err_and c.from_residual.result c.from_residual.ensures.1 in
    rw (p.1, p.2) (fails_alone _ (files_within c.args.limit c.args.journals.now) tt (λ reader files is. tt))

pub admit_journals-requires-clause-document : goal.admit_journals-requires-clause-document
admit_journals-requires-clause-document g c = c.id-document.ensures.id ∙ sym c.id-document.ensures.same

pub returns-clause-read : goal.returns-clause-read
returns-clause-read g c =
    let same = ap (λ (document : DocumentId). record (admission_view c.in_ok-started.started) { document = document }) c.id-document.ensures.same in
    sits c.args.limit c.args.journals.now _ _ (same ∙ c.in_ok-started.ensures) c.admit_journals.ensures.read
