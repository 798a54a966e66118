use Rattle.redl_page_numbers.proofs.PieceLaws.{level-text}
use Rattle.redl_io.proofs.Puts.{puts_then, puts_fails}
use Rattle.std.proofs.Common.{refl}
use Rattle.redl_page_numbers.proofs.put_levels.put_level.Goals as goal

pub returns-in_err-put_head : goal.returns-in_err-put_head
returns-in_err-put_head g c =
    puts_fails _ (level-text c.args.row.now) c.from_residual.ensures.1 c.in_err-put_head.ensures

pub returns-in_err-put_numbers : goal.returns-in_err-put_numbers
returns-in_err-put_numbers g c =
    puts_then (level-text c.args.row.now) c.in_ok-put_head.ensures
    (puts_fails _ refl c.from_residual-in_err-put_numbers.ensures.1 c.in_err-put_numbers.ensures)

pub returns-in_err-put_format : goal.returns-in_err-put_format
returns-in_err-put_format g c =
    puts_then (level-text c.args.row.now) c.in_ok-put_head.ensures
    (puts_then refl c.in_ok-put_numbers.ensures
    (puts_fails _ refl c.from_residual-in_err-put_format.ensures.1 c.in_err-put_format.ensures))

pub returns : goal.returns
returns g c =
    puts_then (level-text c.args.row.now) c.in_ok-put_head.ensures
    (puts_then refl c.in_ok-put_numbers.ensures
    (puts_then refl c.in_ok-put_format.ensures
    c.put_end.ensures))
