use Rattle.std.proofs.Common.{refl}
use Rattle.redl_io.proofs.Puts.{puts_then, puts_fails}
use Rattle.redl_page_stories.proofs.starts.put_given_embed.Goals as goal

pub returns-in_err-put_piece : goal.returns-in_err-put_piece
returns-in_err-put_piece g c = puts_fails _ refl c.from_residual.ensures.1 c.in_err-put_piece.ensures

pub returns-in_err-put_shown : goal.returns-in_err-put_shown
returns-in_err-put_shown g c = puts_then refl c.in_ok-put_piece.ensures (puts_fails _ refl c.from_residual-in_err-put_shown.ensures.1 c.in_err-put_shown.ensures)

pub returns : goal.returns
returns g c = puts_then refl c.in_ok-put_piece.ensures (puts_then refl c.in_ok-put_shown.ensures c.put_piece-2.ensures)
