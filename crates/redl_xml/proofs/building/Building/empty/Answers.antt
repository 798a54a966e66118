use Rattle.std.proofs.Common.{◌∙◌, ap, ℕ, drop}
use Rattle.redl_tree.specs.Model.Nodes.{Item, Empty, no_nodes, in_front, ◌⊕◌}
use Rattle.redl_tree.specs.Model.View.{nodes_of}
use Rattle.redl_xml.specs.Inside.Buildings.{building_view}
use Rattle.redl_xml.proofs.Buildings.{elem_is, empty_at}
use Rattle.redl_xml.proofs.building.Building.empty.Goals as goal

pub returns-clause-ok : goal.returns-clause-ok
returns-clause-ok c =
    let old = c.args.self.now in
    let tag = c.args.tag.now in
    let space = c.in_ok-entered.entered.space in
    let made = elem_is c.empty-elem.result _ Empty no_nodes tag.name space tag.tail c.empty-elem.ensures.tag c.empty-elem.ensures.kids c.in_ok-kept.ensures in
    let kids = c.in_ok-push_node.ensures ∙ ap (λ (i : Item). nodes_of old.kids.items ⊕ in_front i no_nodes) made in
    empty_at (building_view old) tag.name tag.tail (space, c.enter.new.scopes) _ c.forget.new.self c.in_ok-entered.ensures.read kids (c.forget.ensures ∙ ap (λ (n : ℕ). drop n c.enter.new.scopes) c.in_ok-entered.ensures.declared)
