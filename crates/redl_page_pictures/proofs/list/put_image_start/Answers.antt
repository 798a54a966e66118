use Rattle.redl_io.proofs.Puts.{puts_then, puts_fails}
use Rattle.redl_page_pictures.proofs.ListLaws.{start-text}
use Rattle.redl_page_pictures.proofs.list.put_image_start.Goals as goal

pub returns-in_err-put_attribute : goal.returns-in_err-put_attribute
returns-in_err-put_attribute g c = puts_fails _ (start-text c.args.image.now) c.from_residual.ensures.1 (rw c.name.ensures at c.in_err-put_attribute.ensures)

pub returns : goal.returns
returns g c = puts_then (start-text c.args.image.now) (rw c.name.ensures at c.in_ok-put_attribute.ensures) (rw c.kind.ensures at c.put_attribute-2.ensures)
