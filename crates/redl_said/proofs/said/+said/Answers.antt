-- What a node says is heard before what those after it say.
use Rattle.std.proofs.Common.{◌+◌, ◌∙◌, ap, arith, drop, sym}
use Rattle.redl_tree.specs.Model.View.{item_of, nodes_of}
use Rattle.redl_tree.proofs.Model.Laws.{nodes_here}
use Rattle.redl_said.specs.Said.{item_said, said}
use Rattle.redl_said.proofs.SaidLaws.{said-in_front}
use Rattle.redl_said.proofs.said.+said.Goals as goal

pub tell_nodes-loop-node-preserved : goal.tell_nodes-loop-node-preserved
tell_nodes-loop-node-preserved g t c =
    let nodes = c.args.nodes.now in
    let i = c.loop-node.node-index in
    let x = c.node-item.result in
    let in_line = c.args.in_line in
    let in_text = c.args.in_text in
    let rest = nodes_of (drop (i + 1) nodes) in
    let here = nodes_here nodes i x (omega arith) c.node-item.is in
    let ear = c.loop-node.ear in
    ap (λ e. g.E.Ear.heard e (said in_line in_text rest)) c.in_ok-tell_node.ensures
    ∙ g.E.Ear.heard_more ear (item_said in_line in_text (item_of x)) (said in_line in_text rest)
    ∙ ap (g.E.Ear.heard ear) (sym (ap (said in_line in_text) here ∙ said-in_front in_line in_text (item_of x) rest))
    ∙ c.loop-node.invariant
