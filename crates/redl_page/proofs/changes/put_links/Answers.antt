use Rattle.redl_io.proofs.Puts.{puts_then, puts_fails}
use Rattle.redl_page.proofs.ChangeLaws.{links-text}
use Rattle.redl_page.proofs.changes.put_links.Goals as goal

pub returns-in_err-put_edit : goal.returns-in_err-put_edit
returns-in_err-put_edit g c = puts_fails _ (links-text c.args.said.now) c.from_residual.ensures.1 c.in_err-put_edit.ensures

pub returns : goal.returns
returns g c = puts_then (links-text c.args.said.now) c.in_ok-put_edit.ensures c.put_remark_ids.ensures
