use Rattle.std.proofs.Common.{refl}
use Rattle.redl_io.proofs.Puts.{puts_then, puts_fails}
use Rattle.redl_page_pictures.proofs.list.put_image_end.Goals as goal

pub returns-in_err-put_piece : goal.returns-in_err-put_piece
returns-in_err-put_piece g c = puts_fails _ refl c.from_residual.ensures.1 c.in_err-put_piece.ensures

pub returns-in_err-put_base64 : goal.returns-in_err-put_base64
returns-in_err-put_base64 g c =
    puts_then refl c.in_ok-put_piece.ensures (puts_fails _ refl c.from_residual-in_err-put_base64.ensures.1 (rw c.text.ensures at c.in_err-put_base64.ensures))

pub returns : goal.returns
returns g c = puts_then refl c.in_ok-put_piece.ensures (puts_then refl (rw c.text.ensures at c.in_ok-put_base64.ensures) c.put_piece-2.ensures)
