use Rattle.std.proofs.Common.{refl}
use Rattle.redl_io.proofs.Puts.{puts_then, puts_fails}
use Rattle.redl_bare.proofs.line.put_named.Goals as goal

pub returns-in_err-close-clause-puts : goal.returns-in_err-close-clause-puts
returns-in_err-close-clause-puts g c = puts_fails _ refl c.from_residual.ensures.1 c.in_err-close.ensures

pub returns-in_err-put_marks-clause-puts : goal.returns-in_err-put_marks-clause-puts
returns-in_err-put_marks-clause-puts g c =
    puts_then refl c.in_ok-close.ensures (puts_fails _ refl c.from_residual-in_err-put_marks.ensures.1 c.in_err-put_marks.ensures)

pub returns-clause-puts : goal.returns-clause-puts
returns-clause-puts g c = puts_then refl c.in_ok-close.ensures (puts_then refl c.in_ok-put_marks.ensures (rw c.as_slice.ensures at c.put_pieces.ensures))
