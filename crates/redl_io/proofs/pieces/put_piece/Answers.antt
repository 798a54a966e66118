use Rattle.redl_io.proofs.Puts.{puts_one}
use Rattle.redl_io.proofs.pieces.put_piece.Goals as goal

pub returns : goal.returns
returns g c = puts_one c.put.ensures.appends c.put.ensures.within c.put.ensures.cause c.put.ensures.settles c.put.ensures.same_lenders
