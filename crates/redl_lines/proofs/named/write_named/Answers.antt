use Rattle.std.proofs.Common.{refl}
use Rattle.redl_io.proofs.Puts.{puts_then, puts_fails}
use Rattle.redl_lines.proofs.named.write_named.Goals as goal

pub returns-in_err-put_piece : goal.returns-in_err-put_piece
returns-in_err-put_piece g c = puts_fails _ refl c.from_residual.ensures.1 c.in_err-put_piece.ensures

pub returns-in_err-put_masked : goal.returns-in_err-put_masked
returns-in_err-put_masked g c =
    puts_then refl c.in_ok-put_piece.ensures (puts_fails _ refl c.from_residual-in_err-put_masked.ensures.1 c.in_err-put_masked.ensures)

pub returns : goal.returns
returns g c = puts_then refl c.in_ok-put_piece.ensures (puts_then refl c.in_ok-put_masked.ensures (c.put_piece-2).ensures)
