use Rattle.std.proofs.Common.{◌≡◌, ◌∙◌, ap, sym, true, ◌∷◌, drop, length, reverse, Some, arith}
use Rattle.std.specs.Global.{Vec}
use Rattle.std.proofs.lemmas.Bool.{not-false}
use Rattle.redl_tree.specs.Model.Nodes.{Nodes, Item, End, no_nodes, in_front, ◌⊕◌}
use Rattle.redl_tree.specs.Model.View.{nodes_of}
use Rattle.redl_tree.specs.declared.node.Node.{Node}
use Rattle.redl_grammar.specs.Names.{Name, name_eq}
use Rattle.redl_markup.specs.Views.{name_view}
use Rattle.redl_xml.specs.Scopes.{Scope}
use Rattle.redl_xml.specs.Inside.Elements.{one_element}
use Rattle.redl_xml.specs.Inside.Buildings.{frame_view, frames, building_view}
use Rattle.redl_xml.proofs.Buildings.{elem_is, is_plain_start, state, frames-pop, closed_at}
use Rattle.redl_xml.proofs.building.Building.end.Goals as goal

pub returns-clause-ok : goal.returns-clause-ok
returns-clause-ok c =
    let old = c.args.self.now in
    let opened = c.in-Some.opened in
    let before = c.unwrap_or-before.result in
    let frame = frame_view opened (nodes_of before.items) in
    let space = c.args.space.now in
    let left = c.pop-2.new.self in
    let rest = frames (reverse c.pop.new.self.items) (reverse left.items) in
    let size : length left.items ≡ left.len = omega (arith, left.ok.0) in
    let popped = frames-pop old.open.items c.pop.new.self.items opened old.before.items left.items c.pop-2.result c.new.result _ _ _ c.in-Some.ensures.items c.pop-2.ensures.items c.pop-2.ensures.cases size c.new.ensures.items in
    let top : (building_view old).open_elements ≡ frame ∷ rest = popped ∙ ap (λ (v : Vec Node). frame_view opened (nodes_of v.items) ∷ rest) (sym c.unwrap_or-before.ensures) in
    let same : name_eq frame.name (name_view c.args.name) ≡ true = ap (λ (n : Name). name_eq n (name_view c.args.name)) (sym c.name_of.ensures) ∙ not-false _ (sym c.ne.ensures ∙ c.if-ne.false) in
    let kids : c.shrink_to_fit.new.self.items ≡ old.kids.items = c.shrink_to_fit.ensures.items ∙ ap (λ (v : Vec Node). v.items) c.replace-kids.ensures.value in
    let made = elem_is c.in_ok-elem.elem _ (End space) (nodes_of old.kids.items) frame.name frame.space frame.tail c.in_ok-elem.ensures.tag (c.in_ok-elem.ensures.kids ∙ ap nodes_of kids) (is_plain_start opened.start opened.kind opened.rev) in
    let one = one_element frame.name frame.space frame.tail (End space) (nodes_of old.kids.items) in
    let after = c.in_ok-push_node.ensures ∙ ap (λ (i : Item). nodes_of c.replace-kids.new.dest.items ⊕ in_front i no_nodes) made ∙ ap (λ (v : Vec Node). nodes_of v.items ⊕ one) c.replace-kids.ensures.after in
    closed_at (building_view old).open_elements rest frame (nodes_of old.kids.items) old.scopes (name_view c.args.name) space top same
    ∙ ap (λ (n : Nodes). Some (state rest n (drop opened.declared old.scopes))) (sym after)
    ∙ ap (λ (sc : Scope). Some (state rest (nodes_of c.push_node.new.nodes.items) sc)) (sym c.forget.ensures)
