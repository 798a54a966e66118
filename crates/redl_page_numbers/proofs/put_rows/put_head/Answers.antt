use Rattle.std.proofs.Common.{refl}
use Rattle.redl_io.proofs.Puts.{puts_then, puts_fails}
use Rattle.redl_page_numbers.proofs.PieceLaws.{head-text}
use Rattle.redl_page_numbers.proofs.put_rows.put_head.Goals as goal

pub returns-in_err-put_number : goal.returns-in_err-put_number
returns-in_err-put_number g c =
    puts_fails _ (head-text c.args.row.now) c.from_residual.ensures.1 c.in_err-put_number.ensures

pub returns-in_err-put_number-2 : goal.returns-in_err-put_number-2
returns-in_err-put_number-2 g c =
    puts_then (head-text c.args.row.now) c.in_ok-put_number.ensures
    (puts_fails _ refl c.from_residual-in_err-put_number-2.ensures.1 c.in_err-put_number-2.ensures)

pub returns-in_err-put_number-3 : goal.returns-in_err-put_number-3
returns-in_err-put_number-3 g c =
    puts_then (head-text c.args.row.now) c.in_ok-put_number.ensures
    (puts_then refl c.in_ok-put_number-2.ensures
    (puts_fails _ refl c.from_residual-in_err-put_number-3.ensures.1 c.in_err-put_number-3.ensures))

pub returns : goal.returns
returns g c =
    puts_then (head-text c.args.row.now) c.in_ok-put_number.ensures
    (puts_then refl c.in_ok-put_number-2.ensures
    (puts_then refl c.in_ok-put_number-3.ensures
    (rw c.row_end.ensures at c.put_piece.ensures)))
