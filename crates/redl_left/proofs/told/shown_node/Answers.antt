-- A node that is no element is bytes.
use Rattle.std.proofs.Common.{◌≡◌, IfOk, ap, sym, subst, ◌∙◌, true≢false}
use Rattle.redl_tree.specs.Model.Kids.{has_element}
use Rattle.redl_tree.specs.Model.Nodes.{no_nodes, in_front, Item}
use Rattle.redl_tree.specs.Model.View.{item_of}
use Rattle.redl_tree.proofs.Model.Laws.{item_of-Elem, item_of-Bytes, item_of-Plain}
use Rattle.redl_tree.proofs.Idle.Items.{element_first}
use Rattle.redl_left.specs.Finds.{front_shown}
use Rattle.redl_left.proofs.told.shown_node.Goals as goal

pub returns-in-Bytes : goal.returns-in-Bytes
returns-in-Bytes c = λ rest.
    let P : Item → Type 0 = λ item. IfOk c.shown.result (λ text. text ≡ front_shown (in_front item rest)) in
    subst P (sym (ap item_of c.in-Bytes.is ∙ item_of-Bytes c.in-Bytes.bytes)) c.shown.ensures

pub returns-in-Elem : goal.returns-in-Elem
returns-in-Elem c = λ rest.
    let P : Item → Type 0 = λ item. IfOk c.copy_of.result (λ text. text ≡ front_shown (in_front item rest)) in
    subst P (sym (ap item_of c.in-Elem.is ∙ item_of-Elem c.in-Elem.field-0)) c.copy_of.ensures

pub returns-in-Plain : goal.returns-in-Plain
returns-in-Plain c = λ rest.
    let is = ap item_of c.in-Plain.is ∙ item_of-Plain c.in-Plain.field-0 in
    absurd (true≢false (sym (element_first c.in-Plain.field-0 no_nodes) ∙ ap (λ (item : Item). has_element (in_front item no_nodes)) (sym is) ∙ c.requires))
