use Rattle.std.proofs.Common.{◌∙◌, ◌+◌, arith, drop}
use Rattle.redl_tree.specs.Model.View.{item_of, nodes_of}
use Rattle.redl_tree.proofs.Model.Laws.{nodes_here}
use Rattle.redl_page_stories.proofs.NodeLaws.{value_of-later}
use Rattle.redl_page_stories.proofs.values.value_of.Goals as goal

pub loop-node-preserved : goal.loop-node-preserved
loop-node-preserved c =
    value_of-later c.args.property (nodes_of (drop c.loop-node.node-index c.args.kids.now)) (item_of c.node-item.result) (nodes_of (drop (c.loop-node.node-index + 1) c.args.kids.now))
    (nodes_here c.args.kids.now c.loop-node.node-index c.node-item.result (omega arith) c.node-item.is) c.in_default.ensures
    ∙ c.loop-node.invariant
