use Rattle.std.proofs.Common.{refl}
use Rattle.redl_io.proofs.Puts.{puts_then, puts_fails}
use Rattle.redl_output.proofs.write.write_end.Goals as goal

pub returns-in_err-write_name : goal.returns-in_err-write_name
returns-in_err-write_name g c =
    puts_then refl c.in_ok-put_piece.ensures (puts_fails _ refl c.from_residual-in_err-write_name.ensures.1 c.in_err-write_name.ensures)

pub returns-in_err-write_white : goal.returns-in_err-write_white
returns-in_err-write_white g c =
    puts_then refl c.in_ok-put_piece.ensures (puts_then refl c.in_ok-write_name.ensures
    (puts_fails _ refl c.from_residual-in_err-write_white.ensures.1 c.in_err-write_white.ensures))

pub returns : goal.returns
returns g c =
    puts_then refl c.in_ok-put_piece.ensures (puts_then refl c.in_ok-write_name.ensures
    (puts_then refl c.in_ok-write_white.ensures c.put_piece-2.ensures))

pub returns-in_err-put_piece : goal.returns-in_err-put_piece
returns-in_err-put_piece g c = puts_fails _ refl c.from_residual.ensures.1 c.in_err-put_piece.ensures
