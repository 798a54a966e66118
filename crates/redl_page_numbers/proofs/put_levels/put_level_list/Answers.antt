use Rattle.std.proofs.Common.{◌∙◌, refl, sym}
use Rattle.redl_io.proofs.Puts.{puts_then, puts_fails}
use Rattle.redl_page_numbers.proofs.PieceLaws.{levels-text}
use Rattle.redl_page_numbers.proofs.put_levels.put_level_list.Goals as goal

pub returns-in_err-put_piece : goal.returns-in_err-put_piece
returns-in_err-put_piece g c =
    puts_fails _ (levels-text c.args.rows.now (sym c.is_empty.ensures ∙ c.if-is_empty.false)) c.from_residual.ensures.1 c.in_err-put_piece.ensures

pub returns-in_err-put_levels : goal.returns-in_err-put_levels
returns-in_err-put_levels g c =
    puts_then (levels-text c.args.rows.now (sym c.is_empty.ensures ∙ c.if-is_empty.false)) c.in_ok-put_piece.ensures
    (puts_fails _ refl c.from_residual-in_err-put_levels.ensures.1 c.in_err-put_levels.ensures)

pub returns : goal.returns
returns g c =
    puts_then (levels-text c.args.rows.now (sym c.is_empty.ensures ∙ c.if-is_empty.false)) c.in_ok-put_piece.ensures
    (puts_then refl c.in_ok-put_levels.ensures
    c.put_piece-2.ensures)
