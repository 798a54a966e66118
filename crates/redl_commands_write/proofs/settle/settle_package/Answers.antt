use Rattle.std.proofs.Common.{Ok, ap, sym}
use Rattle.std.proofs.lemmas.Result.{err_from_is_err_and}
use Rattle.redl_inputs.proofs.ReadLaws.{takes_stops, takes_ok}
use Rattle.redl_commands.specs.Settle.{settled_under, settling}
use Rattle.redl_commands_write.proofs.settle.settle_package.Goals as goal

pub returns-in_err-package : goal.returns-in_err-package
returns-in_err-package c =
    let p = err_from_is_err_and c.from_residual.result c.from_residual.ensures.1 in
    rw (p.1, p.2) (takes_stops (λ nodes reader. Ok (settled_under (settling c.args.accept) nodes)) c.in_err-package.ensures.read)

pub returns : goal.returns
returns c =
    takes_ok (λ nodes. Ok (settled_under (settling c.args.accept) nodes)) c.in_ok-package.ensures.read
    (ap Ok (sym (rw c.say_of.ensures at c.in_ok-settle_under.ensures)))
