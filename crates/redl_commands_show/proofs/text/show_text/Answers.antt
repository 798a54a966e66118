use Rattle.std.proofs.Common.{Ok, ap, sym}
use Rattle.std.proofs.lemmas.Result.{err_from_is_err_and}
use Rattle.redl_inputs.proofs.ReadLaws.{takes_stops, takes_ok}
use Rattle.redl_commands_shown.specs.Text.{text_in}
use Rattle.redl_commands.specs.Writing.{only_bytes}
use Rattle.redl_commands_show.proofs.text.show_text.Goals as goal

pub returns-in_err-package : goal.returns-in_err-package
returns-in_err-package c =
    let p = err_from_is_err_and c.from_residual.result c.from_residual.ensures.1 in
    rw (p.1, p.2) (takes_stops (λ nodes reader. Ok (only_bytes (text_in c.args.view nodes))) c.in_err-package.ensures.read)

pub returns : goal.returns
returns c =
    takes_ok (λ nodes. Ok (only_bytes (text_in c.args.view nodes))) c.in_ok-package.ensures.read
    (ap (λ bytes. Ok (only_bytes bytes)) (sym c.in_ok-show_package.ensures))
