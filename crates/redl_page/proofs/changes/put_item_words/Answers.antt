use Rattle.std.proofs.Common.{refl}
use Rattle.redl_io.proofs.Puts.{puts_then, puts_fails}
use Rattle.redl_page.proofs.ChangeLaws.{item_words-text}
use Rattle.redl_page.proofs.changes.put_item_words.Goals as goal

pub returns-in_err-put_words : goal.returns-in_err-put_words
returns-in_err-put_words g c =
    puts_fails _ (item_words-text c.args.said.now) c.from_residual.ensures.1 c.in_err-put_words.ensures

pub returns-in_err-put_words-2 : goal.returns-in_err-put_words-2
returns-in_err-put_words-2 g c =
    puts_then (item_words-text c.args.said.now) c.in_ok-put_words.ensures
    (puts_fails _ refl c.from_residual-in_err-put_words-2.ensures.1 c.in_err-put_words-2.ensures)

pub returns : goal.returns
returns g c =
    puts_then (item_words-text c.args.said.now) c.in_ok-put_words.ensures
    (puts_then refl c.in_ok-put_words-2.ensures c.put_words-3.ensures)
