use Rattle.std.proofs.Common.{refl}
use Rattle.redl_io.proofs.Puts.{puts_then, puts_fails}
use Rattle.redl_page.proofs.page.write_page.Goals as goal

pub returns-in_err-put_head : goal.returns-in_err-put_head
returns-in_err-put_head g c = puts_fails _ refl c.from_residual.ensures.1 c.in_err-put_head.ensures

pub returns-in_err-put_body : goal.returns-in_err-put_body
returns-in_err-put_body g c =
    puts_then refl c.in_ok-put_head.ensures (puts_fails _ refl c.from_residual-in_err-put_body.ensures.1 c.in_err-put_body.ensures)

pub returns : goal.returns
returns g c = puts_then refl c.in_ok-put_head.ensures (puts_then refl c.in_ok-put_body.ensures c.put_end.ensures)
