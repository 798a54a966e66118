-- Node by node.
use Rattle.std.proofs.Common.{◌∙◌, ◌+◌, arith, drop, sym}
use Rattle.redl_tree.specs.Model.View.{item_of, nodes_of}
use Rattle.redl_tree.proofs.Model.Laws.{nodes_here}
use Rattle.redl_clauses.proofs.SignLaws.{sign-here, sign-later}
use Rattle.redl_clauses.proofs.signs.+signs.Goals as goal

pub has_sign-returns-then-node_has_sign : goal.has_sign-returns-then-node_has_sign
has_sign-returns-then-node_has_sign t c =
    let nodes = c.args.nodes.now in
    let i = c.loop-node.node-index in
    let x = c.node-item.result in
    sym (sign-here (nodes_of (drop i nodes)) (item_of x) (nodes_of (drop (i + 1) nodes)) (nodes_here nodes i x (omega arith) c.node-item.is)
    (sym c.node_has_sign.ensures ∙ c.if-node_has_sign.true))
    ∙ c.loop-node.invariant

pub has_sign-loop-node-preserved : goal.has_sign-loop-node-preserved
has_sign-loop-node-preserved t c =
    let nodes = c.args.nodes.now in
    let i = c.loop-node.node-index in
    let x = c.node-item.result in
    sign-later (nodes_of (drop i nodes)) (item_of x) (nodes_of (drop (i + 1) nodes)) (nodes_here nodes i x (omega arith) c.node-item.is)
    (sym c.node_has_sign.ensures ∙ c.if-node_has_sign.false)
    ∙ c.loop-node.invariant
