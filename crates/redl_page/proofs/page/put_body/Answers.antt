use Rattle.std.proofs.Common.{refl}
use Rattle.redl_io.proofs.Puts.{puts_then, puts_fails}
use Rattle.redl_page.specs.PageViews.{shown_by}
use Rattle.redl_page.proofs.PageLaws.{body-text}
use Rattle.redl_page.proofs.page.put_body.Goals as goal

pub returns-in_err-put_body_head : goal.returns-in_err-put_body_head
returns-in_err-put_body_head g c =
    puts_fails _ (body-text (shown_by c.args.page.now)) c.from_residual.ensures.1 (rw c.count.ensures at c.in_err-put_body_head.ensures)

pub returns-in_err-put_stories : goal.returns-in_err-put_stories
returns-in_err-put_stories g c =
    puts_then (body-text (shown_by c.args.page.now)) (rw c.count.ensures at c.in_ok-put_body_head.ensures)
    (puts_fails _ refl c.from_residual-in_err-put_stories.ensures.1 c.in_err-put_stories.ensures)

pub returns : goal.returns
returns g c =
    puts_then (body-text (shown_by c.args.page.now)) (rw c.count.ensures at c.in_ok-put_body_head.ensures)
    (puts_then refl c.in_ok-put_stories.ensures c.put_lists.ensures)
