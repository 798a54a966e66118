use Rattle.redl_io.proofs.Puts.{puts_then, puts_fails}
use Rattle.redl_page.proofs.ChangeLaws.{head-text}
use Rattle.redl_page.proofs.changes.put_change_head.Goals as goal

pub returns-in_err-put_number_and_kind : goal.returns-in_err-put_number_and_kind
returns-in_err-put_number_and_kind g c = puts_fails _ (head-text c.args.revision.now) c.from_residual.ensures.1 c.in_err-put_number_and_kind.ensures

pub returns : goal.returns
returns g c = puts_then (head-text c.args.revision.now) c.in_ok-put_number_and_kind.ensures c.put_author_and_date.ensures
