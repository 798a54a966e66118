-- No element among the kids is the first one.
use Rattle.std.proofs.Common.{◌≡◌, Bool, true, false, ◌||◌, ◌∙◌, ap, sym, refl, arith, drop}
use Rattle.redl_tree.specs.Model.Kids.{has_element}
use Rattle.redl_tree.specs.Model.Nodes.{no_nodes, in_front}
use Rattle.redl_tree.specs.Model.View.{item_of, nodes_of}
use Rattle.redl_tree.proofs.Model.Laws.{nodes_here}
use Rattle.redl_tree.proofs.Model.KeptLaws.{has-in_front}
use Rattle.redl_left.proofs.told.shown_alone.Goals as goal

neither : (a b : Bool) → (a || b) ≡ false → a ≡ false
neither true b h = h
neither false b h = refl

pub shown_node-requires : goal.shown_node-requires
shown_node-requires c =
    let kids = c.args.kids.now in
    let x = c.node-item.result in
    let more = nodes_of (drop 1 kids) in
    let here = nodes_here kids 0 x (omega arith) c.node-item.is in
    let none : has_element (nodes_of kids) ≡ false = sym c.has_elements.ensures ∙ c.if-has_elements.false in
    neither (has_element (in_front (item_of x) no_nodes)) (has_element more) (sym (has-in_front (item_of x) more) ∙ ap has_element (sym here) ∙ none)
