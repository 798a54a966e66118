use Rattle.std.proofs.Common.{Ok, ap, sym}
use Rattle.std.proofs.lemmas.Result.{err_from_is_err_and}
use Rattle.redl_commands.specs.Settle.{passed_text}
use Rattle.redl_index.specs.Numbers.{package_revisions}
use Rattle.redl_inputs.proofs.ReadLaws.{takes_stops, takes_ok}
use Rattle.redl_session.specs.Says.{says_of}
use Rattle.redl_commands_resume.proofs.resume.text_under.Goals as goal

pub returns-in_err-package : goal.returns-in_err-package
returns-in_err-package c =
    let p = err_from_is_err_and c.from_residual.result c.from_residual.ensures.1 in
    rw (p.1, p.2) (takes_stops (λ nodes reader. Ok (passed_text (says_of c.args.book.now (package_revisions nodes)) nodes)) c.in_err-package.ensures.read)

pub returns : goal.returns
returns c =
    takes_ok (λ nodes. Ok (passed_text (says_of c.args.book.now (package_revisions nodes)) nodes)) c.in_ok-package.ensures.read
    (ap Ok (sym c.in_ok-pass_text.ensures))
