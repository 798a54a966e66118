-- Idle elements are no properties of a paragraph, so a paragraph that holds some has more than its properties.
use Rattle.std.proofs.Common.{◌≡◌, ◌∙◌, refl, sym, ap, true, false, not, List, ℕ}
use Rattle.redl_tree.specs.Model.IdleTexts.{idle_nodes}
use Rattle.redl_tree.specs.Model.Nodes.{Nodes, no_nodes}
use Rattle.redl_tree.specs.Model.Kids.{some_element, has_element, without}
use Rattle.redl_tree.specs.Roles.Names.{is}
use Rattle.redl_tree.proofs.Model.Laws.{⊕-no_nodes}
use Rattle.redl_tree.proofs.Idle.Items.{nodes_are_idle, element_among, none_idle}
use Rattle.redl_tree.proofs.Idle.Lists.{NoneIs, name_none, without_past}
use Rattle.redl_paras.proofs.ChainLaws.{some_besides}

pub no_props : NoneIs false (is "pPr")
no_props = name_none "pPr" false refl

pub idle_is_no_props : (t : List ℕ) → some_element (is "pPr") (idle_nodes t) ≡ false
idle_is_no_props t = none_idle (is "pPr") no_props t

pub idle_is_held : (t : List ℕ) → some_element (λ tag. not (is "pPr" tag)) (idle_nodes t) ≡ true
idle_is_held t =
    sym (some_besides (is "pPr") (idle_nodes t))
    ∙ ap (λ (ns : Nodes). has_element (without (is "pPr") ns)) (sym (⊕-no_nodes (idle_nodes t)))
    ∙ ap has_element (without_past false (is "pPr") no_props (idle_nodes t) no_nodes (nodes_are_idle t) ∙ ⊕-no_nodes (idle_nodes t))
    ∙ element_among t
