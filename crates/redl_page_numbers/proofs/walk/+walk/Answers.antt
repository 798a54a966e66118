-- Node by node.
use Rattle.std.proofs.Common.{◌∙◌, ◌+◌, ap, sym, arith, drop}
use Rattle.redl_tree.specs.Model.View.{item_of, nodes_of}
use Rattle.redl_tree.proofs.Model.Laws.{nodes_here}
use Rattle.redl_page_numbers.specs.Walks.{walked}
use Rattle.redl_page_numbers.proofs.WalkLaws.{walked-in_front}
use Rattle.redl_page_numbers.proofs.walk.+walk.Goals as goal

pub walk_nodes-loop-node-preserved : goal.walk_nodes-loop-node-preserved
walk_nodes-loop-node-preserved t c =
    let tables = c.args.lists.now.tables.now in
    let loud = c.args.loud in
    let nodes = c.args.nodes.now in
    let i = c.loop-node.node-index in
    let x = c.node-item.result in
    let rest = nodes_of (drop (i + 1) nodes) in
    let w = c.loop-node.walk in
    ap (walked tables loud rest) c.in_ok-walk_node.ensures
    ∙ sym (ap (λ ns. walked tables loud ns w) (nodes_here nodes i x (omega arith) c.node-item.is) ∙ walked-in_front tables loud (item_of x) rest w)
    ∙ c.loop-node.invariant
