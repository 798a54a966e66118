use Rattle.redl_page_numbers.proofs.PieceLaws.{numbers-text}
use Rattle.redl_page_numbers.proofs.put_levels.put_numbers.Goals as goal
use Rattle.redl_io.proofs.Puts.{puts_then, puts_fails}
use Rattle.std.proofs.Common.{refl}

pub returns-in_err-put_signed : goal.returns-in_err-put_signed
returns-in_err-put_signed g c =
    puts_fails _ (numbers-text c.args.row.now) c.from_residual.ensures.1 c.in_err-put_signed.ensures

pub returns-in_err-put_if_any : goal.returns-in_err-put_if_any
returns-in_err-put_if_any g c =
    puts_then (numbers-text c.args.row.now) c.in_ok-put_signed.ensures
    (puts_fails _ refl c.from_residual-in_err-put_if_any.ensures.1 c.in_err-put_if_any.ensures)

pub returns : goal.returns
returns g c =
    puts_then (numbers-text c.args.row.now) c.in_ok-put_signed.ensures
    (puts_then refl c.in_ok-put_if_any.ensures
    c.put_if_any-2.ensures)
