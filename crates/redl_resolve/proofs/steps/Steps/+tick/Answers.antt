use Rattle.std.proofs.Common.{◌+◌, drop, ap, arith}
use Rattle.redl_tree.proofs.Model.Laws.{nodes_here, count-in_front}
use Rattle.redl_tree.specs.Model.Count.{count}
use Rattle.redl_tree.specs.Model.View.{nodes_of, item_of}
use Rattle.redl_resolve.proofs.steps.Steps.+tick.Goals as goal

pub tick_each-loop-node-preserved : goal.tick_each-loop-node-preserved
tick_each-loop-node-preserved g t c =
    let items = c.args.nodes.now in
    let i = c.loop-node.node-index in
    let x = c.node-item.result in
    let here = nodes_here items i x (omega arith) c.node-item.is in
    omega (arith, c.tick_node.ensures, ap count here, count-in_front (item_of x) (nodes_of (drop (i + 1) items)), c.loop-node.invariant)
