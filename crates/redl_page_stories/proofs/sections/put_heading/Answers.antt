use Rattle.std.proofs.Common.{refl}
use Rattle.redl_io.proofs.Puts.{puts_then, puts_fails}
use Rattle.redl_page_stories.proofs.NodeLaws.{heading-named}
use Rattle.redl_page_stories.proofs.sections.put_heading.Goals as goal

pub returns-in_err-put_piece : goal.returns-in_err-put_piece
returns-in_err-put_piece g c = puts_fails _ (heading-named c.args.first c.args.name.now c.args.sort.now c.if-first.false) c.from_residual.ensures.1 c.in_err-put_piece.ensures

pub returns-in_err-put_heading_words : goal.returns-in_err-put_heading_words
returns-in_err-put_heading_words g c =
    puts_then (heading-named c.args.first c.args.name.now c.args.sort.now c.if-first.false) c.in_ok-put_piece.ensures
    (puts_fails _ refl c.from_residual-in_err-put_heading_words.ensures.1 c.in_err-put_heading_words.ensures)

pub returns : goal.returns
returns g c =
    puts_then (heading-named c.args.first c.args.name.now c.args.sort.now c.if-first.false) c.in_ok-put_piece.ensures
    (puts_then refl c.in_ok-put_heading_words.ensures c.put_piece-2.ensures)
