use Rattle.std.proofs.Common.{refl}
use Rattle.redl_io.proofs.Puts.{puts_then, puts_fails}
use Rattle.redl_marked.proofs.signs.put_word_sign.Goals as goal

pub returns-in_err-put_opening : goal.returns-in_err-put_opening
returns-in_err-put_opening g c = puts_fails _ refl c.from_residual.ensures.1 c.in_err-put_opening.ensures

pub returns-in_err-put_piece : goal.returns-in_err-put_piece
returns-in_err-put_piece g c =
    puts_then refl c.in_ok-put_opening.ensures (puts_fails _ refl c.from_residual-in_err-put_piece.ensures.1 c.in_err-put_piece.ensures)

pub returns : goal.returns
returns g c =
    puts_then refl c.in_ok-put_opening.ensures (puts_then refl c.in_ok-put_piece.ensures (rw c.sign_end.ensures at c.put_piece-2.ensures))
