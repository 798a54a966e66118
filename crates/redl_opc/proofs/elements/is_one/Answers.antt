use Rattle.std.proofs.Common.{◌∙◌, is_some, sym, ap}
use Rattle.redl_tree.specs.Model.IdleTexts.{idle_nodes}
use Rattle.redl_tree.specs.Model.Nodes.{in_front, no_nodes}
use Rattle.redl_tree.specs.Model.View.{item_of}
use Rattle.redl_tree.proofs.Model.Laws.{item_of-Plain, ⊕-no_nodes}
use Rattle.redl_opc.specs.Elements.{only_element}
use Rattle.redl_opc.proofs.elements.is_one.Goals as goal

pub returns-in-Plain : goal.returns-in-Plain
returns-in-Plain c =
    let t = c.in-Plain.plain in
    c.is_one_kept.ensures
    ∙ sym (ap (λ x. is_some (only_element (in_front x no_nodes))) (ap item_of c.in-Plain.is ∙ item_of-Plain t) ∙ ap (λ ns. is_some (only_element ns)) (⊕-no_nodes (idle_nodes t)))
