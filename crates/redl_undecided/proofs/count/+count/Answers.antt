use Rattle.std.proofs.Common.{◌≡◌, ◌+◌, ◌-◌, ◌^◌, min, drop, ap, sym, subst, ◌∙◌, arith}
use Rattle.redl_tree.specs.Model.IdleTexts.{idle_nodes}
use Rattle.redl_tree.specs.Model.Nodes.{Nodes, Item, no_nodes, in_front}
use Rattle.redl_tree.specs.Model.View.{nodes_of, item_of}
use Rattle.redl_tree.proofs.Model.Laws.{nodes_here, nodes_end, item_of-Plain, ⊕-no_nodes}
use Rattle.redl_undecided.proofs.MarkLaws.{marks-in_front}
use Rattle.redl_undecided.specs.Undecided.{undecided_marks}
use Rattle.redl_undecided.proofs.count.+count.Goals as goal

pub add_node-returns-in-Plain : goal.add_node-returns-in-Plain
add_node-returns-in-Plain t c =
    let marks : Nodes → Type 0 = λ ns. c.add_plain.result ≡ min (c.args.count + undecided_marks ns) (2 ^ 64 - 1) in
    let of_item : Item → Type 0 = λ item. marks (in_front item no_nodes) in
    let own : marks (idle_nodes c.in-Plain.plain) = omega (arith, c.add_plain.ensures) in
    subst of_item (sym (ap item_of c.in-Plain.is ∙ item_of-Plain c.in-Plain.plain))
    (subst marks (sym (⊕-no_nodes (idle_nodes c.in-Plain.plain))) own)

pub add_nodes-loop-node-preserved : goal.add_nodes-loop-node-preserved
add_nodes-loop-node-preserved t c =
    let items = c.args.nodes.now in
    let i = c.loop-node.node-index in
    let x = c.node-item.result in
    let here = nodes_here items i x (omega arith) c.node-item.is in
    let both = marks-in_front (item_of x) (nodes_of (drop (i + 1) items)) in
    record {
      in_range = omega (arith, c.add_node-total.ensures);
      total = omega (arith, c.add_node-total.ensures, ap undecided_marks here, both, c.loop-node.invariant.total, c.loop-node.invariant.in_range);
    }

pub add_nodes-returns : goal.add_nodes-returns
add_nodes-returns t c =
    let end = nodes_end c.args.nodes.now c.loop-node.node-index (omega arith) in
    omega (arith, ap undecided_marks end, c.loop-node.invariant.total, c.loop-node.invariant.in_range)
