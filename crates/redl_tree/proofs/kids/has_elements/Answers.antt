use Rattle.std.proofs.Common.{◌≡◌, ◌+◌, true, false, ◌||◌, drop, sym, ap, ◌∙◌, arith}
use Rattle.redl_tree.specs.Model.Kids.{has_element}
use Rattle.redl_tree.specs.Model.Nodes.{no_nodes, in_front}
use Rattle.redl_tree.specs.Model.View.{nodes_of, item_of}
use Rattle.redl_tree.proofs.Model.Laws.{nodes_here}
use Rattle.redl_tree.proofs.Model.KeptLaws.{has-in_front}
use Rattle.redl_tree.proofs.kids.has_elements.Goals as goal

pub loop-node-preserved : goal.loop-node-preserved
loop-node-preserved c =
    let items = c.args.nodes.now in
    let i = c.loop-node.node-index in
    let x = c.node-item.result in
    let more = nodes_of (drop (i + 1) items) in
    let here = nodes_here items i x (omega arith) c.node-item.is in
    let e : has_element (in_front (item_of x) no_nodes) ≡ false = sym c.is_element.ensures ∙ c.if-is_element.false in
    sym (ap has_element here ∙ has-in_front (item_of x) more ∙ ap (λ b. b || has_element more) e) ∙ c.loop-node.invariant

pub returns-then-is_element : goal.returns-then-is_element
returns-then-is_element c =
    let items = c.args.nodes.now in
    let i = c.loop-node.node-index in
    let x = c.node-item.result in
    let more = nodes_of (drop (i + 1) items) in
    let here = nodes_here items i x (omega arith) c.node-item.is in
    let e : has_element (in_front (item_of x) no_nodes) ≡ true = sym c.is_element.ensures ∙ c.if-is_element.true in
    sym (ap has_element here ∙ has-in_front (item_of x) more ∙ ap (λ b. b || has_element more) e) ∙ c.loop-node.invariant
