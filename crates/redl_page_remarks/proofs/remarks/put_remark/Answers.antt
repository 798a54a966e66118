use Rattle.std.proofs.Common.{refl}
use Rattle.redl_io.proofs.Puts.{puts_then, puts_fails}
use Rattle.redl_page_remarks.proofs.remarks.put_remark.Goals as goal

pub returns-in_err-put_remark_start : goal.returns-in_err-put_remark_start
returns-in_err-put_remark_start g c = puts_fails _ refl c.from_residual.ensures.1 c.in_err-put_remark_start.ensures

pub returns-in_err-put_reply : goal.returns-in_err-put_reply
returns-in_err-put_reply g c =
    puts_then refl c.in_ok-put_remark_start.ensures (puts_fails _ refl c.from_residual-in_err-put_reply.ensures.1 c.in_err-put_reply.ensures)

pub returns : goal.returns
returns g c = puts_then refl c.in_ok-put_remark_start.ensures (puts_then refl c.in_ok-put_reply.ensures c.put_remark_end.ensures)
