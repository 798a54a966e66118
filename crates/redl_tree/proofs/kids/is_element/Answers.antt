use Rattle.std.proofs.Common.{◌∙◌, sym, ap}
use Rattle.redl_tree.specs.Model.Kids.{has_element}
use Rattle.redl_tree.specs.Model.Nodes.{no_nodes, in_front}
use Rattle.redl_tree.specs.Model.View.{item_of}
use Rattle.redl_tree.proofs.Model.Laws.{item_of-Plain}
use Rattle.redl_tree.proofs.Idle.Items.{element_first}
use Rattle.redl_tree.proofs.kids.is_element.Goals as goal

pub returns-in-Plain : goal.returns-in-Plain
returns-in-Plain c =
    let t = c.in-Plain.field-0 in
    sym (ap (λ x. has_element (in_front x no_nodes)) (ap item_of c.in-Plain.is ∙ item_of-Plain t) ∙ element_first t no_nodes)
