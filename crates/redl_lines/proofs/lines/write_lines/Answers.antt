use Rattle.std.proofs.Common.{refl}
use Rattle.redl_io.proofs.Puts.{puts_then, puts_fails}
use Rattle.redl_lines.proofs.lines.write_lines.Goals as goal

pub returns-in_ok-write_remarks-in-Unwritten : goal.returns-in_ok-write_remarks-in-Unwritten
returns-in_ok-write_remarks-in-Unwritten g c =
    rw c.in-Unwritten.is (puts_then refl c.in_ok-write_remarks-in-Unwritten.ensures c.put_piece.ensures)

pub returns-in_err-write_remarks-in-Unwritten : goal.returns-in_err-write_remarks-in-Unwritten
returns-in_err-write_remarks-in-Unwritten g c =
    rw c.in-Unwritten.is (puts_fails _ refl c.from_residual.ensures.1 c.in_err-write_remarks-in-Unwritten.ensures)
