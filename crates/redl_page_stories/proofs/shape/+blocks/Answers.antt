use Rattle.std.proofs.Common.{◌∙◌, ◌+◌, arith, drop, sym}
use Rattle.redl_tree.specs.Model.View.{nodes_of, item_of}
use Rattle.redl_tree.proofs.Model.Laws.{nodes_here}
use Rattle.redl_page_stories.proofs.NodeLaws.{holds-later}
use Rattle.redl_page_stories.proofs.shape.+blocks.Goals as goal

pub holds_blocks-loop-node-preserved : goal.holds_blocks-loop-node-preserved
holds_blocks-loop-node-preserved t c =
    holds-later (nodes_of (drop c.loop-node.node-index c.args.nodes.now)) (item_of c.node-item.result) (nodes_of (drop (c.loop-node.node-index + 1) c.args.nodes.now))
    (nodes_here c.args.nodes.now c.loop-node.node-index c.node-item.result (omega arith) c.node-item.is) (sym c.node_holds.ensures ∙ c.if-node_holds.false)
    ∙ c.loop-node.invariant
