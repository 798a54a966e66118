-- Node by node.
use Rattle.std.proofs.Common.{◌+◌, drop, sym, ap, ◌∙◌, arith}
use Rattle.redl_tree.specs.Model.View.{item_of, nodes_of}
use Rattle.redl_tree.proofs.Model.Laws.{nodes_here, nodes_end}
use Rattle.redl_changed.specs.Kept.{kept_after}
use Rattle.redl_changed.specs.Leaves.{leaves_in}
use Rattle.redl_changed.proofs.LeafLaws.{one_more}
use Rattle.redl_changed.proofs.leaves.+leaves.Goals as goal

pub push_leaves-loop-node-preserved : goal.push_leaves-loop-node-preserved
push_leaves-loop-node-preserved t c =
    let nodes = c.args.nodes.now in
    let i = c.loop-node.node-index in
    let x = c.node-item.result in
    one_more c.args.what c.args.path.now c.loop-node.kept c.push_node_leaves.new.kept _ (item_of x) (nodes_of (drop i nodes)) (nodes_of (drop (i + 1) nodes))
    (nodes_here nodes i x (omega arith) c.node-item.is) c.in_ok-push_node_leaves.ensures c.loop-node.invariant

pub push_leaves-returns : goal.push_leaves-returns
push_leaves-returns t c =
    let end = nodes_end c.args.nodes.now c.loop-node.node-index (omega arith) in
    sym (ap (λ ns. kept_after c.loop-node.kept (leaves_in c.args.what c.args.path.now ns)) end) ∙ c.loop-node.invariant
