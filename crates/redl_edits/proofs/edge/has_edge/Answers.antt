-- Node by node.
use Rattle.std.proofs.Common.{◌+◌, ◌||◌, ap, sym, ◌∙◌, arith, drop}
use Rattle.redl_tree.specs.Model.View.{nodes_of, item_of}
use Rattle.redl_tree.proofs.Model.Laws.{nodes_here}
use Rattle.redl_edits.proofs.EdgeLaws.{own_edges, own_edges-in_front}
use Rattle.redl_edits.proofs.edge.has_edge.Goals as goal

pub loop-node-preserved : goal.loop-node-preserved
loop-node-preserved c =
    let items = c.args.kids.now in
    let i = c.loop-node.node-index in
    let x = c.node-item.result in
    let here = nodes_here items i x (omega arith) c.node-item.is in
    ap (λ b. b || own_edges (nodes_of (drop (i + 1) items))) c.if-has_edge_in.ensures
    ∙ sym (ap own_edges here ∙ own_edges-in_front (item_of x) (nodes_of (drop (i + 1) items)))
    ∙ c.loop-node.invariant

pub returns-then-has_edge_in : goal.returns-then-has_edge_in
returns-then-has_edge_in c =
    let items = c.args.kids.now in
    let i = c.loop-node.node-index in
    let x = c.node-item.result in
    let here = nodes_here items i x (omega arith) c.node-item.is in
    ap (λ b. b || own_edges (nodes_of (drop (i + 1) items))) c.if-has_edge_in.ensures
    ∙ sym (ap own_edges here ∙ own_edges-in_front (item_of x) (nodes_of (drop (i + 1) items)))
    ∙ c.loop-node.invariant
