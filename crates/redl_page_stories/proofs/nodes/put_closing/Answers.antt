use Rattle.std.proofs.Common.{refl}
use Rattle.redl_io.proofs.Puts.{puts_then, puts_fails}
use Rattle.redl_tree.specs.Model.View.{kids_of}
use Rattle.redl_page_stories.proofs.NodeLaws.{shape_end-text}
use Rattle.redl_page_stories.proofs.nodes.put_closing.Goals as goal

pub returns-in_err-put_marks_of : goal.returns-in_err-put_marks_of
returns-in_err-put_marks_of g c =
    puts_fails _ (shape_end-text c.args.index.now c.args.shape (kids_of c.args.elem.now)) c.from_residual.ensures.1 c.in_err-put_marks_of.ensures

pub returns-in_err-put_before_closing : goal.returns-in_err-put_before_closing
returns-in_err-put_before_closing g c =
    puts_then (shape_end-text c.args.index.now c.args.shape (kids_of c.args.elem.now)) c.in_ok-put_marks_of.ensures
    (puts_fails _ refl c.from_residual-in_err-put_before_closing.ensures.1 c.in_err-put_before_closing.ensures)

pub returns : goal.returns
returns g c =
    puts_then (shape_end-text c.args.index.now c.args.shape (kids_of c.args.elem.now)) c.in_ok-put_marks_of.ensures
    (puts_then refl c.in_ok-put_before_closing.ensures (rw c.closing.ensures at c.put_piece.ensures))
