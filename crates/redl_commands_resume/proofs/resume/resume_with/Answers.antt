use Rattle.std.proofs.lemmas.Result.{err_from_is_err_and}
use Rattle.redl_commands_resume.proofs.ResumeLaws.{concludes_all, stops_all}
use Rattle.redl_commands_resume.proofs.resume.resume_with.Goals as goal

pub returns-in_err-joined : goal.returns-in_err-joined
returns-in_err-joined g c = λ one is again.
    let p = err_from_is_err_and c.from_residual.result c.from_residual.ensures.1 in
    rw (p.1, p.2) (stops_all one c.args.first c.args.second.left c.args.second.journals.now c.args.whole.items is (rw c.deref.ensures.value at c.in_err-joined.ensures))

pub returns : goal.returns
returns g c = λ one is again.
    concludes_all one c.args.first c.args.second.left c.args.second.journals.now c.args.whole.items is (rw c.deref.ensures.value at c.in_ok-joined.ensures) (c.conclude.ensures one is.document is.refused again)
