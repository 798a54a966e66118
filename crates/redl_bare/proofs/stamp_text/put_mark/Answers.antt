use Rattle.std.proofs.Common.{refl}
use Rattle.redl_io.proofs.Puts.{puts_then, puts_fails}
use Rattle.redl_bare.proofs.stamp_text.put_mark.Goals as goal

pub returns-in_err-put_piece : goal.returns-in_err-put_piece
returns-in_err-put_piece g c = puts_fails _ refl c.from_residual.ensures.1 (rw c.sign_name.ensures at c.in_err-put_piece.ensures)

pub returns-in_err-put_piece-2 : goal.returns-in_err-put_piece-2
returns-in_err-put_piece-2 g c =
    puts_then refl (rw c.sign_name.ensures at c.in_ok-put_piece.ensures) (puts_fails _ refl c.from_residual-in_err-put_piece-2.ensures.1 c.in_err-put_piece-2.ensures)

pub returns-in_err-put_stamp : goal.returns-in_err-put_stamp
returns-in_err-put_stamp g c =
    puts_then refl (rw c.sign_name.ensures at c.in_ok-put_piece.ensures)
    (puts_then refl c.in_ok-put_piece-2.ensures (puts_fails _ refl c.from_residual-in_err-put_stamp.ensures.1 c.in_err-put_stamp.ensures))

pub returns : goal.returns
returns g c =
    puts_then refl (rw c.sign_name.ensures at c.in_ok-put_piece.ensures)
    (puts_then refl c.in_ok-put_piece-2.ensures (puts_then refl c.in_ok-put_stamp.ensures c.put_piece-3.ensures))
