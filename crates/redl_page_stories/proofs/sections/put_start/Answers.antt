use Rattle.std.proofs.Common.{refl}
use Rattle.redl_io.proofs.Puts.{puts_then, puts_fails}
use Rattle.redl_page_stories.proofs.sections.put_start.Goals as goal

pub returns-in_err-put_piece : goal.returns-in_err-put_piece
returns-in_err-put_piece g c = puts_fails _ refl c.from_residual.ensures.1 c.in_err-put_piece.ensures

pub returns-in_err-put_escaped : goal.returns-in_err-put_escaped
returns-in_err-put_escaped g c = puts_then refl c.in_ok-put_piece.ensures (puts_fails _ refl c.from_residual-in_err-put_escaped.ensures.1 c.in_err-put_escaped.ensures)

pub returns-in_err-put_piece-2 : goal.returns-in_err-put_piece-2
returns-in_err-put_piece-2 g c =
    puts_then refl c.in_ok-put_piece.ensures (puts_then refl c.in_ok-put_escaped.ensures (puts_fails _ refl c.from_residual-in_err-put_piece-2.ensures.1 c.in_err-put_piece-2.ensures))

pub returns-in_err-put_escaped-2 : goal.returns-in_err-put_escaped-2
returns-in_err-put_escaped-2 g c =
    puts_then refl c.in_ok-put_piece.ensures (puts_then refl c.in_ok-put_escaped.ensures
    (puts_then refl c.in_ok-put_piece-2.ensures (puts_fails _ refl c.from_residual-in_err-put_escaped-2.ensures.1 c.in_err-put_escaped-2.ensures)))

pub returns : goal.returns
returns g c =
    puts_then refl c.in_ok-put_piece.ensures (puts_then refl c.in_ok-put_escaped.ensures
    (puts_then refl c.in_ok-put_piece-2.ensures (puts_then refl c.in_ok-put_escaped-2.ensures c.put_piece-3.ensures)))
