use Rattle.redl_io.proofs.Puts.{puts_then, puts_fails}
use Rattle.redl_page.specs.PageViews.{heading_view}
use Rattle.redl_page.proofs.PageLaws.{heading-text}
use Rattle.redl_page.proofs.page.put_heading.Goals as goal

pub returns-in_err-put_title_attribute : goal.returns-in_err-put_title_attribute
returns-in_err-put_title_attribute g c =
    puts_fails _ (heading-text (heading_view c.args.heading)) c.from_residual.ensures.1 c.in_err-put_title_attribute.ensures

pub returns : goal.returns
returns g c =
    puts_then (heading-text (heading_view c.args.heading)) c.in_ok-put_title_attribute.ensures c.put_rank_attribute.ensures
