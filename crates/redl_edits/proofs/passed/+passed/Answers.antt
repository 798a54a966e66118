-- Node by node.
use Rattle.std.proofs.Common.{◌+◌, ◌++◌, ap, sym, ◌∙◌, arith, drop, ℕ, List, append_assoc, append-nil}
use Rattle.redl_tree.specs.Model.Nodes.{Nodes}
use Rattle.redl_tree.specs.Model.View.{nodes_of, item_of}
use Rattle.redl_tree.proofs.Model.Laws.{nodes_here, nodes_end}
use Rattle.redl_edits.specs.Inside.Items.{item_passed}
use Rattle.redl_edits.specs.Passed.{passed}
use Rattle.redl_edits.proofs.PassedLaws.{passed-in_front}
use Rattle.redl_edits.proofs.passed.+passed.Goals as goal

pub pass_nodes-loop-node-preserved : goal.pass_nodes-loop-node-preserved
pass_nodes-loop-node-preserved t c =
    let in_text = c.args.in_text in
    let items = c.args.nodes.now in
    let i = c.loop-node.node-index in
    let x = c.node-item.result in
    let more = nodes_of (drop (i + 1) items) in
    let old = c.loop-node.out in
    let here = nodes_here items i x (omega arith) c.node-item.is in
    ap (λ (bs : List ℕ). bs ++ passed in_text more) c.in_ok-pass_node.ensures
    ∙ append_assoc old (item_passed in_text (item_of x)) (passed in_text more)
    ∙ ap (λ (bs : List ℕ). old ++ bs) (sym (ap (passed in_text) here ∙ passed-in_front in_text (item_of x) more))
    ∙ c.loop-node.invariant

pub pass_nodes-returns : goal.pass_nodes-returns
pass_nodes-returns t c =
    let end = nodes_end c.args.nodes.now c.loop-node.node-index (omega arith) in
    let now = c.loop-node.out in
    sym (ap (λ (ns : Nodes). now ++ passed c.args.in_text ns) end ∙ append-nil now)
    ∙ c.loop-node.invariant
