use Rattle.std.proofs.Common.{refl}
use Rattle.redl_io.proofs.Puts.{puts_then, puts_fails}
use Rattle.redl_page_pictures.proofs.ListLaws.{lead-text}
use Rattle.redl_page_pictures.proofs.list.put_lead.Goals as goal

pub returns-in_err-put_attribute : goal.returns-in_err-put_attribute
returns-in_err-put_attribute g c = puts_fails _ (lead-text c.args.lead.now) c.from_residual.ensures.1 (rw c.as_bytes.ensures at c.in_err-put_attribute.ensures)

pub returns-in_err-put_attribute-2 : goal.returns-in_err-put_attribute-2
returns-in_err-put_attribute-2 g c =
    puts_then (lead-text c.args.lead.now) (rw c.as_bytes.ensures at c.in_ok-put_attribute.ensures)
    (puts_fails _ refl c.from_residual-in_err-put_attribute-2.ensures.1 (rw c.as_bytes-2.ensures at c.in_err-put_attribute-2.ensures))

pub returns-in_err-put_attribute-3 : goal.returns-in_err-put_attribute-3
returns-in_err-put_attribute-3 g c =
    puts_then (lead-text c.args.lead.now) (rw c.as_bytes.ensures at c.in_ok-put_attribute.ensures)
    (puts_then refl (rw c.as_bytes-2.ensures at c.in_ok-put_attribute-2.ensures)
    (puts_fails _ refl c.from_residual-in_err-put_attribute-3.ensures.1 (rw c.as_bytes-3.ensures at c.in_err-put_attribute-3.ensures)))

pub returns : goal.returns
returns g c =
    puts_then (lead-text c.args.lead.now) (rw c.as_bytes.ensures at c.in_ok-put_attribute.ensures)
    (puts_then refl (rw c.as_bytes-2.ensures at c.in_ok-put_attribute-2.ensures)
    (puts_then refl (rw c.as_bytes-3.ensures at c.in_ok-put_attribute-3.ensures) c.put_piece.ensures))
