use Rattle.std.proofs.Common.{◌∙◌, ◌+◌, arith, drop, sym}
use Rattle.redl_tree.specs.Model.View.{item_of, nodes_of}
use Rattle.redl_tree.proofs.Model.Laws.{nodes_here}
use Rattle.redl_lists.specs.Parts.{part_element}
use Rattle.redl_lists.proofs.NamedLaws.{within-here, within-later}
use Rattle.redl_lists.proofs.within.+within.Goals as goal

pub within_nodes-returns-in-Some : goal.within_nodes-returns-in-Some
within_nodes-returns-in-Some t c =
    sym c.loop-node.invariant
    ∙ within-here c.args.name.now (nodes_of (drop c.loop-node.node-index c.args.nodes.now)) (item_of c.node-item.result) (nodes_of (drop (c.loop-node.node-index + 1) c.args.nodes.now)) (part_element c.in-Some.found)
    (nodes_here c.args.nodes.now c.loop-node.node-index c.node-item.result (omega arith) c.node-item.is) c.in-Some.ensures

pub within_nodes-loop-node-preserved : goal.within_nodes-loop-node-preserved
within_nodes-loop-node-preserved t c =
    within-later c.args.name.now (nodes_of (drop c.loop-node.node-index c.args.nodes.now)) (item_of c.node-item.result) (nodes_of (drop (c.loop-node.node-index + 1) c.args.nodes.now))
    (nodes_here c.args.nodes.now c.loop-node.node-index c.node-item.result (omega arith) c.node-item.is) c.in_default.ensures
    ∙ c.loop-node.invariant
