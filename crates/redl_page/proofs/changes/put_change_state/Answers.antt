use Rattle.redl_io.proofs.Puts.{puts_then, puts_fails}
use Rattle.redl_page.proofs.ChangeLaws.{state-text}
use Rattle.redl_page.proofs.changes.put_change_state.Goals as goal

pub returns-in_err-put_piece : goal.returns-in_err-put_piece
returns-in_err-put_piece g c =
    puts_fails _ (state-text c.args.verdict c.args.locked) c.from_residual.ensures.1 (rw c.verdict_before.ensures at c.in_err-put_piece.ensures)

pub returns : goal.returns
returns g c =
    puts_then (state-text c.args.verdict c.args.locked) (rw c.verdict_before.ensures at c.in_ok-put_piece.ensures) (rw c.locked_before.ensures at c.put_piece-2.ensures)
