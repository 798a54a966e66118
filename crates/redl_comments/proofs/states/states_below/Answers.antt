-- Root by root.
use Rattle.std.proofs.Common.{◌+◌, ◌++◌, ap, sym, ◌∙◌, arith, drop, List, append_assoc, append-nil}
use Rattle.redl_tree.specs.Model.Nodes.{Nodes}
use Rattle.redl_tree.specs.Model.View.{nodes_of, item_of}
use Rattle.redl_tree.proofs.Model.Laws.{nodes_here, nodes_end}
use Rattle.redl_comments.specs.Comments.{root_states}
use Rattle.redl_comments.specs.Inside.Items.{item_root_states}
use Rattle.redl_comments.specs.declared.state.State.{State}
use Rattle.redl_comments.proofs.ItemLaws.{root_states-in_front}
use Rattle.redl_comments.proofs.states.states_below.Goals as goal

pub loop-node-preserved : goal.loop-node-preserved
loop-node-preserved c =
    let items = c.args.nodes.now in
    let i = c.loop-node.node-index in
    let x = c.node-item.result in
    let more = nodes_of (drop (i + 1) items) in
    let old = c.loop-node.states.items in
    let here = nodes_here items i x (omega arith) c.node-item.is in
    ap (λ (ss : List State). ss ++ root_states more) c.in_ok-add_root.ensures
    ∙ append_assoc old (item_root_states (item_of x)) (root_states more)
    ∙ ap (λ (ss : List State). old ++ ss) (sym (ap root_states here ∙ root_states-in_front (item_of x) more))
    ∙ c.loop-node.invariant

pub returns : goal.returns
returns c =
    let end = nodes_end c.args.nodes.now c.loop-node.node-index (omega arith) in
    let now = c.loop-node.states.items in
    sym (ap (λ (ns : Nodes). now ++ root_states ns) end ∙ append-nil now)
    ∙ c.loop-node.invariant
