use Rattle.std.proofs.Common.{◌∙◌, ◌+◌, arith, drop, sym}
use Rattle.redl_tree.specs.Model.View.{item_of, nodes_of}
use Rattle.redl_tree.proofs.Model.Laws.{nodes_here}
use Rattle.redl_page_stories.proofs.NodeLaws.{embed-here, embed-later}
use Rattle.redl_page_stories.proofs.embed.+embed.Goals as goal

pub embed_in-loop-node-preserved : goal.embed_in-loop-node-preserved
embed_in-loop-node-preserved t c =
    embed-later (nodes_of (drop c.loop-node.node-index c.args.nodes.now)) (item_of c.node-item.result) (nodes_of (drop (c.loop-node.node-index + 1) c.args.nodes.now))
    (nodes_here c.args.nodes.now c.loop-node.node-index c.node-item.result (omega arith) c.node-item.is) c.in_default.ensures
    ∙ c.loop-node.invariant

pub embed_in-returns-in-Some : goal.embed_in-returns-in-Some
embed_in-returns-in-Some t c =
    sym c.loop-node.invariant
    ∙ embed-here (nodes_of (drop c.loop-node.node-index c.args.nodes.now)) (item_of c.node-item.result) (nodes_of (drop (c.loop-node.node-index + 1) c.args.nodes.now)) _
    (nodes_here c.args.nodes.now c.loop-node.node-index c.node-item.result (omega arith) c.node-item.is) c.in-Some.ensures
