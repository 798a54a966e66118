use Rattle.std.proofs.Common.{refl}
use Rattle.redl_io.proofs.Puts.{puts_then}
use Rattle.redl_page_pictures.proofs.list.put_attribute.Goals as goal

pub returns : goal.returns
returns g c = puts_then refl c.in_ok-put_piece.ensures c.put_escaped.ensures
