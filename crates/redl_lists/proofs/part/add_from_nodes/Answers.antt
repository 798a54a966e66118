use Rattle.std.proofs.Common.{◌∙◌, ◌+◌, ◌++◌, arith, drop, sym, ap, append_assoc, List}
use Rattle.redl_tree.specs.Model.View.{Element, item_of, nodes_of}
use Rattle.redl_tree.proofs.Model.Laws.{nodes_here}
use Rattle.redl_lists.specs.Named.{all_named}
use Rattle.redl_lists.specs.Parts.{item_all, part_elements}
use Rattle.redl_lists.proofs.NamedLaws.{all_named-in_front}
use Rattle.redl_lists.proofs.part.add_from_nodes.Goals as goal

pub loop-node-preserved : goal.loop-node-preserved
loop-node-preserved c =
    let items = c.args.nodes.now in
    let name = c.args.name.now in
    let i = c.loop-node.node-index in
    let x = c.node-item.result in
    let rest = nodes_of (drop (i + 1) items) in
    let old = part_elements c.loop-node.parts.items in
    let here = nodes_here items i x (omega arith) c.node-item.is in
    ap (λ (es : List Element). es ++ all_named name rest) c.in_ok-add_from_node.ensures
    ∙ append_assoc old (item_all name (item_of x)) (all_named name rest)
    ∙ ap (λ (es : List Element). old ++ es) (sym (ap (all_named name) here ∙ all_named-in_front name (item_of x) rest))
    ∙ c.loop-node.invariant
