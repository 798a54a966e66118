use Rattle.redl_io.proofs.Puts.{puts_then, puts_fails}
use Rattle.std.proofs.Common.{refl}
use Rattle.redl_page_numbers.proofs.put_levels.put_format.Goals as goal

pub returns-in_err-put_piece : goal.returns-in_err-put_piece
returns-in_err-put_piece g c =
    puts_fails _ refl c.from_residual.ensures.1 (rw c.format_name.ensures at c.in_err-put_piece.ensures)

pub returns : goal.returns
returns g c =
    puts_then refl (rw c.format_name.ensures at c.in_ok-put_piece.ensures)
    c.put_width.ensures
