use Rattle.std.proofs.Common.{refl}
use Rattle.redl_io.proofs.Puts.{puts_then, puts_fails}
use Rattle.redl_page_numbers.proofs.PieceLaws.{row-text}
use Rattle.redl_page_numbers.proofs.put_rows.put_row.Goals as goal

pub returns-in_err-put_head : goal.returns-in_err-put_head
returns-in_err-put_head g c =
    puts_fails _ (row-text c.args.row.now) c.from_residual.ensures.1 c.in_err-put_head.ensures

pub returns-in_err-put_escaped : goal.returns-in_err-put_escaped
returns-in_err-put_escaped g c =
    puts_then (row-text c.args.row.now) c.in_ok-put_head.ensures
    (puts_fails _ refl c.from_residual-in_err-put_escaped.ensures.1 (rw c.as_bytes.ensures at c.in_err-put_escaped.ensures))

pub returns : goal.returns
returns g c =
    puts_then (row-text c.args.row.now) c.in_ok-put_head.ensures
    (puts_then refl (rw c.as_bytes.ensures at c.in_ok-put_escaped.ensures)
    c.put_piece.ensures)
