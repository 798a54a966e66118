use Rattle.std.proofs.Common.{◌∙◌, refl, sym}
use Rattle.redl_io.proofs.Puts.{puts_then, puts_fails}
use Rattle.redl_page_numbers.proofs.PieceLaws.{list-text}
use Rattle.redl_page_numbers.proofs.put_rows.put_list.Goals as goal

pub returns-in_err-put_start : goal.returns-in_err-put_start
returns-in_err-put_start g c =
    puts_fails _ (list-text c.args.name.now c.args.rows.now (sym c.is_empty.ensures ∙ c.if-is_empty.false)) c.from_residual.ensures.1 (rw c.as_bytes.ensures at c.in_err-put_start.ensures)

pub returns-in_err-put_rows : goal.returns-in_err-put_rows
returns-in_err-put_rows g c =
    puts_then (list-text c.args.name.now c.args.rows.now (sym c.is_empty.ensures ∙ c.if-is_empty.false)) (rw c.as_bytes.ensures at c.in_ok-put_start.ensures)
    (puts_fails _ refl c.from_residual-in_err-put_rows.ensures.1 c.in_err-put_rows.ensures)

pub returns : goal.returns
returns g c =
    puts_then (list-text c.args.name.now c.args.rows.now (sym c.is_empty.ensures ∙ c.if-is_empty.false)) (rw c.as_bytes.ensures at c.in_ok-put_start.ensures)
    (puts_then refl c.in_ok-put_rows.ensures
    c.put_piece.ensures)
