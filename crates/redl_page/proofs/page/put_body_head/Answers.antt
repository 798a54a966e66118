use Rattle.std.proofs.Common.{refl}
use Rattle.redl_io.proofs.Puts.{puts_then, puts_fails}
use Rattle.redl_page.specs.PageViews.{heading_view}
use Rattle.redl_page.proofs.PageLaws.{body_head-text}
use Rattle.redl_page.proofs.page.put_body_head.Goals as goal

pub returns-in_err-put_body_start : goal.returns-in_err-put_body_start
returns-in_err-put_body_start g c =
    puts_fails _ (body_head-text c.args.digest.now c.args.count (heading_view c.args.heading)) c.from_residual.ensures.1 c.in_err-put_body_start.ensures

pub returns-in_err-put_heading : goal.returns-in_err-put_heading
returns-in_err-put_heading g c =
    puts_then (body_head-text c.args.digest.now c.args.count (heading_view c.args.heading)) c.in_ok-put_body_start.ensures
    (puts_fails _ refl c.from_residual-in_err-put_heading.ensures.1 c.in_err-put_heading.ensures)

pub returns : goal.returns
returns g c =
    puts_then (body_head-text c.args.digest.now c.args.count (heading_view c.args.heading)) c.in_ok-put_body_start.ensures
    (puts_then refl c.in_ok-put_heading.ensures c.put_piece.ensures)
