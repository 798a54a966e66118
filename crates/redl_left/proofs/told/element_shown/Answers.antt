-- Of idle elements nothing is told.
use Rattle.std.proofs.Common.{ap, sym, ◌∙◌, false}
use Rattle.redl_tree.specs.Model.IdleTexts.{idle_nodes}
use Rattle.redl_tree.specs.Model.Nodes.{Item, in_front}
use Rattle.redl_tree.specs.Model.View.{item_of}
use Rattle.redl_tree.proofs.Model.Laws.{item_of-Plain}
use Rattle.redl_tree.proofs.Idle.Items.{nodes_are_idle, element_among}
use Rattle.redl_left.specs.Finds.{inner_shown}
use Rattle.redl_left.proofs.FindLaws.{inner-idle}
use Rattle.redl_left.proofs.told.element_shown.Goals as goal

pub returns-in_ok-copy_of-in-Plain : goal.returns-in_ok-copy_of-in-Plain
returns-in_ok-copy_of-in-Plain c = λ rest.
    let text = c.in-Plain.field-0 in
    let is = ap item_of c.in-Plain.is ∙ item_of-Plain text in
    c.in_ok-copy_of-in-Plain.ensures
    ∙ sym (ap (λ (item : Item). inner_shown (in_front item rest)) is ∙ inner-idle false (idle_nodes text) rest (nodes_are_idle text) (element_among text))
