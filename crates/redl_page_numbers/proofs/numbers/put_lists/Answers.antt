use Rattle.std.proofs.Common.{refl}
use Rattle.redl_io.proofs.Puts.{puts_then, puts_fails}
use Rattle.redl_page_numbers.proofs.PieceLaws.{lists-text}
use Rattle.redl_page_numbers.proofs.numbers.put_lists.Goals as goal

pub returns-in_err-put_sort : goal.returns-in_err-put_sort
returns-in_err-put_sort g c =
    puts_fails _ (lists-text (record { stories = c.args.stories.now; levels = c.args.levels.now })) c.from_residual.ensures.1 c.in_err-put_sort.ensures

pub returns-in_err-put_sort-2 : goal.returns-in_err-put_sort-2
returns-in_err-put_sort-2 g c =
    puts_then (lists-text (record { stories = c.args.stories.now; levels = c.args.levels.now })) c.in_ok-put_sort.ensures
    (puts_fails _ refl c.from_residual-in_err-put_sort-2.ensures.1 c.in_err-put_sort-2.ensures)

pub returns : goal.returns
returns g c =
    puts_then (lists-text (record { stories = c.args.stories.now; levels = c.args.levels.now })) c.in_ok-put_sort.ensures
    (puts_then refl c.in_ok-put_sort-2.ensures
    c.put_level_list.ensures)
