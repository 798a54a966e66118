use Rattle.std.proofs.Common.{refl}
use Rattle.redl_io.proofs.Puts.{puts_then, puts_fails}
use Rattle.redl_output.proofs.write.write_start.Goals as goal

pub returns : goal.returns
returns g c = puts_then refl c.in_ok-put_piece.ensures c.write_inside.ensures

pub returns-in_err-put_piece : goal.returns-in_err-put_piece
returns-in_err-put_piece g c = puts_fails _ refl c.from_residual.ensures.1 c.in_err-put_piece.ensures
