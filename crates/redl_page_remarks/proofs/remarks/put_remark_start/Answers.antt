use Rattle.std.proofs.Common.{refl}
use Rattle.redl_io.proofs.Puts.{puts_then, puts_fails}
use Rattle.redl_page_remarks.proofs.RemarkLaws.{start-text}
use Rattle.redl_page_remarks.proofs.remarks.put_remark_start.Goals as goal

pub returns-in_err-put_attribute : goal.returns-in_err-put_attribute
returns-in_err-put_attribute g c =
    puts_fails _ (start-text c.args.comment.now) c.from_residual.ensures.1 (rw c.as_bytes.ensures at c.in_err-put_attribute.ensures)

pub returns-in_err-put_attribute-2 : goal.returns-in_err-put_attribute-2
returns-in_err-put_attribute-2 g c =
    puts_then (start-text c.args.comment.now) (rw c.as_bytes.ensures at c.in_ok-put_attribute.ensures)
    (puts_fails _ refl c.from_residual-in_err-put_attribute-2.ensures.1 (rw c.as_bytes-2.ensures at c.in_err-put_attribute-2.ensures))

pub returns : goal.returns
returns g c =
    puts_then (start-text c.args.comment.now) (rw c.as_bytes.ensures at c.in_ok-put_attribute.ensures)
    (puts_then refl (rw c.as_bytes-2.ensures at c.in_ok-put_attribute-2.ensures) c.put_date.ensures)
