use Rattle.std.proofs.Common.{refl}
use Rattle.redl_io.proofs.Puts.{puts_then, puts_fails}
use Rattle.redl_marked.proofs.walk.put_elem_end.Goals as goal

pub returns-in_err-put_end_text : goal.returns-in_err-put_end_text
returns-in_err-put_end_text g c = puts_fails _ refl c.from_residual.ensures.1 c.in_err-put_end_text.ensures

pub returns : goal.returns
returns g c = puts_then refl c.in_ok-put_end_text.ensures c.put_end_sign.ensures
