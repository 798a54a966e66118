use Rattle.std.proofs.Common.{refl}
use Rattle.redl_io.proofs.Puts.{puts_then, puts_fails}
use Rattle.redl_page.proofs.PageLaws.{reviewer_list-text}
use Rattle.redl_page.proofs.page.put_reviewer_list.Goals as goal

pub returns-in_err-put_piece : goal.returns-in_err-put_piece
returns-in_err-put_piece g c = puts_fails _ (reviewer_list-text c.args.book.now) c.from_residual.ensures.1 c.in_err-put_piece.ensures

pub returns-in_err-put_reviewers : goal.returns-in_err-put_reviewers
returns-in_err-put_reviewers g c =
    puts_then (reviewer_list-text c.args.book.now) c.in_ok-put_piece.ensures (puts_fails _ refl c.from_residual-in_err-put_reviewers.ensures.1 c.in_err-put_reviewers.ensures)

pub returns : goal.returns
returns g c =
    puts_then (reviewer_list-text c.args.book.now) c.in_ok-put_piece.ensures (puts_then refl c.in_ok-put_reviewers.ensures c.put_piece-2.ensures)
