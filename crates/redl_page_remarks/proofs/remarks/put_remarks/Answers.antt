use Rattle.std.proofs.Common.{refl}
use Rattle.redl_io.proofs.Puts.{puts_then, puts_fails}
use Rattle.redl_page_remarks.proofs.RemarkLaws.{remarks-text}
use Rattle.redl_page_remarks.proofs.remarks.put_remarks.Goals as goal

pub returns-in_err-put_piece : goal.returns-in_err-put_piece
returns-in_err-put_piece g c = puts_fails _ (remarks-text c.args.comments.now c.args.threads.now) c.from_residual.ensures.1 c.in_err-put_piece.ensures

pub returns-in_err-put_each : goal.returns-in_err-put_each
returns-in_err-put_each g c =
    puts_then (remarks-text c.args.comments.now c.args.threads.now) c.in_ok-put_piece.ensures
    (puts_fails _ refl c.from_residual-in_err-put_each.ensures.1 c.in_err-put_each.ensures)

pub returns : goal.returns
returns g c =
    puts_then (remarks-text c.args.comments.now c.args.threads.now) c.in_ok-put_piece.ensures (puts_then refl c.in_ok-put_each.ensures c.put_piece-2.ensures)
