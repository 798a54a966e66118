use Rattle.std.proofs.Common.{◌≡◌, ◌∙◌, ap, length, arith}
use Rattle.redl_tree.specs.Model.Nodes.{Item, no_nodes, in_front, ◌⊕◌}
use Rattle.redl_tree.specs.Model.View.{nodes_of}
use Rattle.redl_tree.proofs.Model.Laws.{item_of-Bytes}
use Rattle.redl_xml.specs.Inside.Buildings.{building_view}
use Rattle.redl_xml.proofs.Buildings.{length-open, stretched_at}
use Rattle.redl_xml.proofs.building.Building.stretch.Goals as goal

pub returns-clause-ok : goal.returns-clause-ok
returns-clause-ok c =
    let old = c.args.self.now in
    let s = building_view old in
    let some : length s.open_elements ≡ 0 → ⊥ = grind (arith, c.is_empty.ensures, c.if-is_empty.false, old.open.ok.0, length-open old.open.items old.before.items) in
    let kids = c.in_ok-push_node.ensures ∙ ap (λ (i : Item). nodes_of old.kids.items ⊕ in_front i no_nodes) (item_of-Bytes c.args.bytes) in
    stretched_at s.open_elements s c.args.bytes.now _ some kids
