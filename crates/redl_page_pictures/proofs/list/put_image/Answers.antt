use Rattle.redl_io.proofs.Puts.{puts_then, puts_fails}
use Rattle.redl_page_pictures.proofs.ListLaws.{image-text}
use Rattle.redl_page_pictures.proofs.list.put_image.Goals as goal

pub returns-in_err-put_image_start : goal.returns-in_err-put_image_start
returns-in_err-put_image_start g c = puts_fails _ (image-text c.args.image.now) c.from_residual.ensures.1 c.in_err-put_image_start.ensures

pub returns : goal.returns
returns g c = puts_then (image-text c.args.image.now) c.in_ok-put_image_start.ensures c.put_image_end.ensures
