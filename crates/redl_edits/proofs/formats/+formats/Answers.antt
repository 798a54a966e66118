-- Node by node.
use Rattle.std.proofs.Common.{◌+◌, ◌++◌, ap, sym, ◌∙◌, arith, drop, List, append_assoc, append-nil}
use Rattle.redl_tree.specs.Model.Nodes.{Nodes}
use Rattle.redl_tree.specs.Model.View.{nodes_of, item_of}
use Rattle.redl_tree.proofs.Model.Laws.{nodes_here, nodes_end}
use Rattle.redl_edits.specs.Formats.{formats}
use Rattle.redl_edits.specs.Inside.Items.{item_kids_formats, item_own_formats}
use Rattle.redl_edits.specs.declared.formats.Format.{Format}
use Rattle.redl_edits.proofs.FormatLaws.{formats-in_front}
use Rattle.redl_edits.proofs.formats.+formats.Goals as goal

pub add_nodes-loop-node-preserved : goal.add_nodes-loop-node-preserved
add_nodes-loop-node-preserved t c =
    let items = c.args.nodes.now in
    let present = nodes_of items in
    let i = c.loop-node.node-index in
    let x = c.node-item.result in
    let more = nodes_of (drop (i + 1) items) in
    let old = c.loop-node.found.items in
    let own = item_own_formats present (item_of x) in
    let kids = item_kids_formats (item_of x) in
    let here = nodes_here items i x (omega arith) c.node-item.is in
    ap (λ (fs : List Format). fs ++ formats present more) (c.in_ok-add_kids.ensures ∙ ap (λ (fs : List Format). fs ++ kids) c.in_ok-add_own.ensures ∙ append_assoc old own kids)
    ∙ append_assoc old (own ++ kids) (formats present more)
    ∙ ap (λ (fs : List Format). old ++ fs) (sym (ap (formats present) here ∙ formats-in_front present (item_of x) more))
    ∙ c.loop-node.invariant

pub add_nodes-returns : goal.add_nodes-returns
add_nodes-returns t c =
    let end = nodes_end c.args.nodes.now c.loop-node.node-index (omega arith) in
    let now = c.loop-node.found.items in
    sym (ap (λ (ns : Nodes). now ++ formats (nodes_of c.args.nodes.now) ns) end ∙ append-nil now)
    ∙ c.loop-node.invariant
