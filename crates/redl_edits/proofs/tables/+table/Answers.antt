-- Node by node.
use Rattle.std.proofs.Common.{◌+◌, ◌++◌, ap, sym, ◌∙◌, arith, drop, ℕ, List, append_assoc, append-nil}
use Rattle.redl_tree.specs.Model.Nodes.{Nodes}
use Rattle.redl_tree.specs.Model.View.{nodes_of, item_of}
use Rattle.redl_tree.proofs.Model.Laws.{nodes_here, nodes_end}
use Rattle.redl_edits.specs.Inside.Items.{item_table_revisions}
use Rattle.redl_edits.specs.Tables.{table_revisions}
use Rattle.redl_edits.proofs.TableLaws.{table_revisions-in_front}
use Rattle.redl_edits.proofs.tables.+table.Goals as goal

pub add_nodes-loop-node-preserved : goal.add_nodes-loop-node-preserved
add_nodes-loop-node-preserved t c =
    let items = c.args.nodes.now in
    let i = c.loop-node.node-index in
    let x = c.node-item.result in
    let more = nodes_of (drop (i + 1) items) in
    let old = c.loop-node.found.items in
    let here = nodes_here items i x (omega arith) c.node-item.is in
    ap (λ (vs : List ℕ). vs ++ table_revisions more) c.in_ok-add_node.ensures
    ∙ append_assoc old (item_table_revisions (item_of x)) (table_revisions more)
    ∙ ap (λ (vs : List ℕ). old ++ vs) (sym (ap table_revisions here ∙ table_revisions-in_front (item_of x) more))
    ∙ c.loop-node.invariant

pub add_nodes-returns : goal.add_nodes-returns
add_nodes-returns t c =
    let end = nodes_end c.args.nodes.now c.loop-node.node-index (omega arith) in
    let now = c.loop-node.found.items in
    sym (ap (λ (ns : Nodes). now ++ table_revisions ns) end ∙ append-nil now)
    ∙ c.loop-node.invariant
