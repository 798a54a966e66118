-- Node by node.
use Rattle.std.proofs.Common.{◌+◌, ◌++◌, ap, sym, ◌∙◌, arith, drop, List, append_assoc, append-nil}
use Rattle.redl_classes.specs.declared.pair.Pair.{Pair}
use Rattle.redl_tree.specs.Model.Nodes.{Nodes}
use Rattle.redl_tree.specs.Model.View.{nodes_of, item_of}
use Rattle.redl_tree.proofs.Model.Laws.{nodes_here, nodes_end}
use Rattle.redl_edits.specs.Inside.Items.{item_tabled}
use Rattle.redl_edits.specs.Tabled.{tabled_in}
use Rattle.redl_edits.proofs.TableLaws.{tabled_in-in_front}
use Rattle.redl_edits.proofs.tabled.+tabled.Goals as goal

pub add_nodes-loop-node-preserved : goal.add_nodes-loop-node-preserved
add_nodes-loop-node-preserved t c =
    let revisions = c.args.index.now in
    let items = c.args.nodes.now in
    let i = c.loop-node.node-index in
    let x = c.node-item.result in
    let more = nodes_of (drop (i + 1) items) in
    let old = c.loop-node.pairs.items in
    let here = nodes_here items i x (omega arith) c.node-item.is in
    ap (λ (ps : List Pair). ps ++ tabled_in revisions more) c.in_ok-add_node.ensures
    ∙ append_assoc old (item_tabled revisions (item_of x)) (tabled_in revisions more)
    ∙ ap (λ (ps : List Pair). old ++ ps) (sym (ap (tabled_in revisions) here ∙ tabled_in-in_front revisions (item_of x) more))
    ∙ c.loop-node.invariant

pub add_nodes-returns : goal.add_nodes-returns
add_nodes-returns t c =
    let end = nodes_end c.args.nodes.now c.loop-node.node-index (omega arith) in
    let now = c.loop-node.pairs.items in
    sym (ap (λ (ns : Nodes). now ++ tabled_in c.args.index.now ns) end ∙ append-nil now)
    ∙ c.loop-node.invariant
