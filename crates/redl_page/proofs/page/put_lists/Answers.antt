use Rattle.std.proofs.Common.{refl}
use Rattle.redl_io.proofs.Puts.{puts_then, puts_fails}
use Rattle.redl_page.specs.PageViews.{shown_by}
use Rattle.redl_page.proofs.PageLaws.{lists-text}
use Rattle.redl_page.proofs.page.put_lists.Goals as goal

pub returns-in_err-put_piece : goal.returns-in_err-put_piece
returns-in_err-put_piece g c = puts_fails _ (lists-text (shown_by c.args.page.now)) c.from_residual.ensures.1 c.in_err-put_piece.ensures

pub returns-in_err-put_changes : goal.returns-in_err-put_changes
returns-in_err-put_changes g c =
    puts_then (lists-text (shown_by c.args.page.now)) c.in_ok-put_piece.ensures (puts_fails _ refl c.from_residual-in_err-put_changes.ensures.1 c.in_err-put_changes.ensures)

pub returns-in_err-put_reviewer_list : goal.returns-in_err-put_reviewer_list
returns-in_err-put_reviewer_list g c =
    puts_then (lists-text (shown_by c.args.page.now)) c.in_ok-put_piece.ensures
    (puts_then refl c.in_ok-put_changes.ensures (puts_fails _ refl c.from_residual-in_err-put_reviewer_list.ensures.1 c.in_err-put_reviewer_list.ensures))

pub returns : goal.returns
returns g c =
    puts_then (lists-text (shown_by c.args.page.now)) c.in_ok-put_piece.ensures
    (puts_then refl c.in_ok-put_changes.ensures (puts_then refl c.in_ok-put_reviewer_list.ensures c.put_fact_lists.ensures))
