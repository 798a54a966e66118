use Rattle.std.proofs.Common.{refl}
use Rattle.redl_io.proofs.Puts.{puts_then, puts_fails}
use Rattle.redl_marked.proofs.package.put_line.Goals as goal

pub returns-in_err-put_line_end : goal.returns-in_err-put_line_end
returns-in_err-put_line_end g c = puts_fails _ refl c.from_residual.ensures.1 c.in_err-put_line_end.ensures

pub returns : goal.returns
returns g c = puts_then refl c.in_ok-put_line_end.ensures (rw c.as_slice.ensures at c.put_pieces.ensures)
