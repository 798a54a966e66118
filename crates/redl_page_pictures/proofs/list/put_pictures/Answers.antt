use Rattle.std.proofs.Common.{refl}
use Rattle.redl_io.proofs.Puts.{puts_then, puts_fails}
use Rattle.redl_page_pictures.proofs.ListLaws.{pictures-text}
use Rattle.redl_page_pictures.proofs.list.put_pictures.Goals as goal

pub returns-in_err-put_piece : goal.returns-in_err-put_piece
returns-in_err-put_piece g c = puts_fails _ (pictures-text c.args.found.now) c.from_residual.ensures.1 c.in_err-put_piece.ensures

pub returns-in_err-put_images : goal.returns-in_err-put_images
returns-in_err-put_images g c =
    puts_then (pictures-text c.args.found.now) c.in_ok-put_piece.ensures
    (puts_fails _ refl c.from_residual-in_err-put_images.ensures.1 (rw c.images.ensures at c.in_err-put_images.ensures))

pub returns-in_err-put_leads : goal.returns-in_err-put_leads
returns-in_err-put_leads g c =
    puts_then (pictures-text c.args.found.now) c.in_ok-put_piece.ensures
    (puts_then refl (rw c.images.ensures at c.in_ok-put_images.ensures)
    (puts_fails _ refl c.from_residual-in_err-put_leads.ensures.1 (rw c.leads.ensures at c.in_err-put_leads.ensures)))

pub returns : goal.returns
returns g c =
    puts_then (pictures-text c.args.found.now) c.in_ok-put_piece.ensures
    (puts_then refl (rw c.images.ensures at c.in_ok-put_images.ensures) (puts_then refl (rw c.leads.ensures at c.in_ok-put_leads.ensures) c.put_piece-2.ensures))
