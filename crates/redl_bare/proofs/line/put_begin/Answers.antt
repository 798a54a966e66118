use Rattle.std.proofs.Common.{refl}
use Rattle.redl_io.proofs.Puts.{puts_then, puts_fails}
use Rattle.redl_bare.proofs.line.put_begin.Goals as goal

pub returns-in_err-close : goal.returns-in_err-close
returns-in_err-close g c = puts_fails _ refl c.from_residual.ensures.1 c.in_err-close.ensures

pub returns-in_err-put_marks : goal.returns-in_err-put_marks
returns-in_err-put_marks g c = puts_then refl c.in_ok-close.ensures (puts_fails _ refl c.from_residual-in_err-put_marks.ensures.1 c.in_err-put_marks.ensures)

pub returns : goal.returns
returns g c = puts_then refl c.in_ok-close.ensures (puts_then refl c.in_ok-put_marks.ensures c.put_piece.ensures)
