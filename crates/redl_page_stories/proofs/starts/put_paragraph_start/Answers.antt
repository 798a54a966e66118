use Rattle.redl_io.proofs.Puts.{puts_then, puts_fails}
use Rattle.redl_tree.specs.Model.View.{nodes_of}
use Rattle.redl_page_stories.proofs.StartLaws.{found_is, paragraph-text}
use Rattle.redl_page_stories.proofs.starts.put_paragraph_start.Goals as goal

pub returns-in_err-put_direction : goal.returns-in_err-put_direction
returns-in_err-put_direction g c =
    puts_fails _ (paragraph-text (nodes_of c.args.kids.now)) c.from_residual.ensures.1
    (rw (found_is c.value_of-direction.result _ c.value_of-direction.ensures) at c.in_err-put_direction.ensures)

pub returns : goal.returns
returns g c =
    puts_then (paragraph-text (nodes_of c.args.kids.now)) (rw (found_is c.value_of-direction.result _ c.value_of-direction.ensures) at c.in_ok-put_direction.ensures)
    (rw (found_is c.value_of-style.result _ c.value_of-style.ensures) at c.put_style.ensures)
