use Rattle.std.proofs.Common.{refl}
use Rattle.redl_io.proofs.Puts.{puts_then, puts_fails}
use Rattle.redl_marked.proofs.walk.put_elem_start.Goals as goal

pub returns-in_err-put_start_sign : goal.returns-in_err-put_start_sign
returns-in_err-put_start_sign g c = puts_fails _ refl c.from_residual.ensures.1 c.in_err-put_start_sign.ensures

pub returns : goal.returns
returns g c = puts_then refl c.in_ok-put_start_sign.ensures c.put_start_text.ensures
