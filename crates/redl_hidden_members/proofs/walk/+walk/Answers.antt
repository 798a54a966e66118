-- Node by node.
use Rattle.std.proofs.Common.{◌∙◌, ◌+◌, ap, sym, arith, drop}
use Rattle.redl_tree.specs.Model.View.{item_of, kids_of, nodes_of}
use Rattle.redl_tree.proofs.Model.Laws.{nodes_here}
use Rattle.redl_hidden_members.specs.Walks.{walked}
use Rattle.redl_hidden_members.proofs.WalkLaws.{walked-in_front}
use Rattle.redl_hidden_members.proofs.walk.+walk.Goals as goal

pub walk_kids-loop-node-preserved : goal.walk_kids-loop-node-preserved
walk_kids-loop-node-preserved t c =
    let styles = c.args.within.styles.now in
    let at = c.args.within.at in
    let parent = kids_of c.args.parent.now in
    let nodes = c.kids-node-items.result.now in
    let i = c.loop-node.node-index in
    let x = c.node-item.result in
    let rest = nodes_of (drop (i + 1) nodes) in
    let w = c.loop-node.walk in
    ap (walked styles at parent rest) c.in_ok-walk_node.ensures
    ∙ sym (ap (λ ns. walked styles at parent ns w) (nodes_here nodes i x (omega arith) c.node-item.is) ∙ walked-in_front styles at parent (item_of x) rest w)
    ∙ c.loop-node.invariant
