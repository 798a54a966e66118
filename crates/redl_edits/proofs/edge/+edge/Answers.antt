-- Node by node.
use Rattle.std.proofs.Common.{◌+◌, ◌||◌, ap, sym, ◌∙◌, arith, drop}
use Rattle.redl_tree.specs.Model.View.{nodes_of, item_of}
use Rattle.redl_tree.proofs.Model.Laws.{nodes_here}
use Rattle.redl_edits.proofs.EdgeLaws.{edges, edges-in_front}
use Rattle.redl_edits.proofs.edge.+edge.Goals as goal

pub have_edge-loop-node-preserved : goal.have_edge-loop-node-preserved
have_edge-loop-node-preserved t c =
    let items = c.args.nodes.now in
    let i = c.loop-node.node-index in
    let x = c.node-item.result in
    let here = nodes_here items i x (omega arith) c.node-item.is in
    ap (λ b. b || edges (nodes_of (drop (i + 1) items))) c.if-is_edge.ensures
    ∙ sym (ap edges here ∙ edges-in_front (item_of x) (nodes_of (drop (i + 1) items)))
    ∙ c.loop-node.invariant

pub have_edge-returns-then-is_edge : goal.have_edge-returns-then-is_edge
have_edge-returns-then-is_edge t c =
    let items = c.args.nodes.now in
    let i = c.loop-node.node-index in
    let x = c.node-item.result in
    let here = nodes_here items i x (omega arith) c.node-item.is in
    ap (λ b. b || edges (nodes_of (drop (i + 1) items))) c.if-is_edge.ensures
    ∙ sym (ap edges here ∙ edges-in_front (item_of x) (nodes_of (drop (i + 1) items)))
    ∙ c.loop-node.invariant
