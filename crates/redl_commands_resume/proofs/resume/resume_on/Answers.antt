use Rattle.std.proofs.Common.{◌∷◌, ◌∙◌, sym}
use Rattle.std.proofs.lemmas.Result.{err_from_is_err_and}
use Rattle.redl_commands_resume.proofs.ResumeLaws.{reads_left, reads_other, reads_then_in}
use Rattle.redl_commands_shown.specs.Resume.{left_by, resumption, sitting_on}
use Rattle.redl_inputs.proofs.ReadLaws.{reads_before, reads_stops}
use Rattle.redl_inputs.specs.Asking.{file_within, files_within}
use Rattle.redl_inputs.specs.Steps.{◌>>=◌}
use Rattle.redl_io.specs.Limits.{package_bytes}
use Rattle.redl_commands_resume.proofs.resume.resume_on.Goals as goal

pub returns-in_err-whole : goal.returns-in_err-whole
returns-in_err-whole g c = λ one first again same.
    let p = err_from_is_err_and c.from_residual.result c.from_residual.ensures.1 in
    rw (p.1, p.2) (reads_stops {wanted = file_within package_bytes c.args.second.package.now ∷ files_within c.args.second.left c.args.second.journals.now} (λ two reader files. resumption one two.0)
    (reads_before (files_within c.args.second.left c.args.second.journals.now)
    (reads_stops (λ fetched reader files. left_by one.state fetched >>= (λ whole. sitting_on reader files c.args.second.left c.args.second.journals.now whole)) c.in_err-whole.ensures)))

pub returns-then-not-is_text : goal.returns-then-not-is_text
returns-then-not-is_text g c = λ one first again same.
    reads_then_in (λ fetched reader files. left_by one.state fetched >>= (λ whole. sitting_on reader files c.args.second.left c.args.second.journals.now whole)) (λ two. resumption one two.0)
    c.in_ok-whole.ensures
    (reads_other _ one c.args.second.left c.in_ok-whole.whole.items c.args.text.items c.args.second.journals.now same (rw c.deref.ensures.value at (sym c.is_text.ensures ∙ c.if-not-is_text.true)))

pub returns : goal.returns
returns g c = λ one first again same.
    reads_then_in (λ fetched reader files. left_by one.state fetched >>= (λ whole. sitting_on reader files c.args.second.left c.args.second.journals.now whole)) (λ two. resumption one two.0)
    c.in_ok-whole.ensures
    (reads_left one c.args.second.left c.in_ok-whole.whole.items c.args.text.items c.args.second.journals.now same (rw c.deref.ensures.value at (sym c.is_text.ensures ∙ c.if-not-is_text.false)) (c.resume_with.ensures one first again))
