use Rattle.std.proofs.Common.{refl}
use Rattle.redl_io.proofs.Puts.{puts_then, puts_fails}
use Rattle.redl_tree.specs.Model.View.{nodes_of}
use Rattle.redl_page_stories.proofs.StartLaws.{cell-text, found_is}
use Rattle.redl_page_stories.proofs.starts.put_cell_start.Goals as goal

pub returns-in_err-put_span : goal.returns-in_err-put_span
returns-in_err-put_span g c =
    puts_fails _ (cell-text (nodes_of c.args.kids.now)) c.from_residual.ensures.1
    (rw (found_is c.value_of-span.result _ c.value_of-span.ensures) at c.in_err-put_span.ensures)

pub returns-in_err-put_merge : goal.returns-in_err-put_merge
returns-in_err-put_merge g c =
    puts_then (cell-text (nodes_of c.args.kids.now)) (rw (found_is c.value_of-span.result _ c.value_of-span.ensures) at c.in_ok-put_span.ensures)
    (puts_fails _ refl c.from_residual-in_err-put_merge.ensures.1 (rw (found_is c.value_of-merge.result _ c.value_of-merge.ensures) at c.in_err-put_merge.ensures))

pub returns : goal.returns
returns g c =
    puts_then (cell-text (nodes_of c.args.kids.now)) (rw (found_is c.value_of-span.result _ c.value_of-span.ensures) at c.in_ok-put_span.ensures)
    (puts_then refl (rw (found_is c.value_of-merge.result _ c.value_of-merge.ensures) at c.in_ok-put_merge.ensures) c.put_piece.ensures)
