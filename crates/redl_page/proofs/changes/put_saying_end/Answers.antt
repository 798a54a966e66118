use Rattle.std.proofs.Common.{refl}
use Rattle.redl_io.proofs.Puts.{puts_then, puts_fails}
use Rattle.redl_page.proofs.ChangeLaws.{saying_end-text}
use Rattle.redl_page.proofs.changes.put_saying_end.Goals as goal

pub returns-in_err-put_piece : goal.returns-in_err-put_piece
returns-in_err-put_piece g c =
    puts_fails _ (saying_end-text c.args.word c.args.rank) c.from_residual.ensures.1 (rw c.word_after.ensures at c.in_err-put_piece.ensures)

pub returns-in_err-put_rank_words : goal.returns-in_err-put_rank_words
returns-in_err-put_rank_words g c =
    puts_then (saying_end-text c.args.word c.args.rank) (rw c.word_after.ensures at c.in_ok-put_piece.ensures)
    (puts_fails _ refl c.from_residual-in_err-put_rank_words.ensures.1 c.in_err-put_rank_words.ensures)

pub returns : goal.returns
returns g c =
    puts_then (saying_end-text c.args.word c.args.rank) (rw c.word_after.ensures at c.in_ok-put_piece.ensures)
    (puts_then refl c.in_ok-put_rank_words.ensures c.put_piece-2.ensures)
