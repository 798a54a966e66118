use Rattle.std.proofs.Common.{◌∙◌, ◌+◌, arith, drop, sym}
use Rattle.redl_tree.specs.Model.View.{item_of, nodes_of}
use Rattle.redl_tree.proofs.Model.Laws.{nodes_here}
use Rattle.redl_page_stories.proofs.NodeLaws.{value_in-here, value_in-later}
use Rattle.redl_page_stories.proofs.values.value_in.Goals as goal

pub returns-in-Some : goal.returns-in-Some
returns-in-Some c =
    sym c.loop-node.invariant
    ∙ value_in-here c.args.property (nodes_of (drop c.loop-node.node-index c.args.nodes.now)) (item_of c.node-item.result) (nodes_of (drop (c.loop-node.node-index + 1) c.args.nodes.now)) c.in-Some.value.now
    (nodes_here c.args.nodes.now c.loop-node.node-index c.node-item.result (omega arith) c.node-item.is) c.in-Some.ensures

pub loop-node-preserved : goal.loop-node-preserved
loop-node-preserved c =
    value_in-later c.args.property (nodes_of (drop c.loop-node.node-index c.args.nodes.now)) (item_of c.node-item.result) (nodes_of (drop (c.loop-node.node-index + 1) c.args.nodes.now))
    (nodes_here c.args.nodes.now c.loop-node.node-index c.node-item.result (omega arith) c.node-item.is) c.in_default.ensures
    ∙ c.loop-node.invariant
