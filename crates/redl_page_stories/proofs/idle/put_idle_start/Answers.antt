use Rattle.std.proofs.Common.{refl}
use Rattle.redl_io.proofs.Puts.{puts_then, puts_fails}
use Rattle.redl_page_stories.proofs.idle.put_idle_start.Goals as goal

pub returns-in_err-put_piece : goal.returns-in_err-put_piece
returns-in_err-put_piece g c = puts_fails _ refl c.from_residual.ensures.1 (rw c.opening.ensures at c.in_err-put_piece.ensures)

pub returns : goal.returns
returns g c = puts_then refl (rw c.opening.ensures at c.in_ok-put_piece.ensures) c.put_behind_alone.ensures
