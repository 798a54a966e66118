-- Node by node.
use Rattle.std.proofs.Common.{◌+◌, ◌++◌, ap, sym, ◌∙◌, arith, drop, List, append_assoc, append-nil}
use Rattle.redl_tree.specs.Model.Nodes.{Nodes}
use Rattle.redl_tree.specs.Model.View.{nodes_of, item_of}
use Rattle.redl_tree.proofs.Model.Laws.{nodes_here, nodes_end}
use Rattle.redl_comments.specs.Comments.{states_among}
use Rattle.redl_comments.specs.Inside.Items.{item_states}
use Rattle.redl_comments.specs.declared.state.State.{State}
use Rattle.redl_comments.proofs.ItemLaws.{states-in_front}
use Rattle.redl_comments.proofs.states.add_nodes.Goals as goal

pub loop-node-preserved : goal.loop-node-preserved
loop-node-preserved c =
    let items = c.args.nodes.now in
    let i = c.loop-node.node-index in
    let x = c.node-item.result in
    let more = nodes_of (drop (i + 1) items) in
    let old = c.loop-node.states.items in
    let here = nodes_here items i x (omega arith) c.node-item.is in
    ap (λ (ss : List State). ss ++ states_among more) c.in_ok-add_node.ensures
    ∙ append_assoc old (item_states (item_of x)) (states_among more)
    ∙ ap (λ (ss : List State). old ++ ss) (sym (ap states_among here ∙ states-in_front (item_of x) more))
    ∙ c.loop-node.invariant

pub returns : goal.returns
returns c =
    let end = nodes_end c.args.nodes.now c.loop-node.node-index (omega arith) in
    let now = c.loop-node.states.items in
    sym (ap (λ (ns : Nodes). now ++ states_among ns) end ∙ append-nil now)
    ∙ c.loop-node.invariant
