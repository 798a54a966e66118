use Rattle.std.proofs.Common.{refl}
use Rattle.redl_io.proofs.Puts.{puts_then, puts_fails}
use Rattle.redl_lines.proofs.lines.write_cause.Goals as goal

pub returns-in_err-write_named : goal.returns-in_err-write_named
returns-in_err-write_named g c = puts_fails _ refl c.from_residual.ensures.1 c.in_err-write_named.ensures

pub returns : goal.returns
returns g c = puts_then refl c.in_ok-write_named.ensures c.put_pieces.ensures
