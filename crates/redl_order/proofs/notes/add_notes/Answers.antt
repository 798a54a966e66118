-- Node by node.
use Rattle.std.proofs.Common.{◌+◌, ◌++◌, ap, sym, ◌∙◌, arith, drop, List, filter, append_assoc, append-nil}
use Rattle.std.proofs.lemmas.List.Elements.{filter-append}
use Rattle.redl_tree.specs.Model.Nodes.{Nodes}
use Rattle.redl_tree.specs.Model.View.{Element, nodes_of, item_of}
use Rattle.redl_tree.proofs.Model.Laws.{nodes_here, nodes_end}
use Rattle.redl_order.specs.Order.{has_id, notes_of}
use Rattle.redl_order.specs.Inside.Items.{item_notes}
use Rattle.redl_order.specs.Inside.Places.{notes_at}
use Rattle.redl_order.proofs.OrderLaws.{notes-in_front}
use Rattle.redl_order.proofs.notes.add_notes.Goals as goal

pub loop-node-preserved : goal.loop-node-preserved
loop-node-preserved c = λ id.
    let items = c.args.kids.now in
    let note = c.args.note in
    let i = c.loop-node.node-index in
    let x = c.node-item.result in
    let p = has_id id in
    let more = nodes_of (drop (i + 1) items) in
    let old = notes_at c.loop-node.found id in
    let here = nodes_here items i x (omega arith) c.node-item.is in
    ap (λ (es : List Element). es ++ filter p (notes_of note more)) (c.in_ok-add_note.ensures id)
    ∙ append_assoc old (filter p (item_notes note (item_of x))) (filter p (notes_of note more))
    ∙ ap (λ (es : List Element). old ++ es)
    (sym (ap (λ (ns : Nodes). filter p (notes_of note ns)) here ∙ ap (filter p) (notes-in_front note (item_of x) more) ∙ filter-append p (item_notes note (item_of x)) (notes_of note more)))
    ∙ c.loop-node.invariant id

pub returns : goal.returns
returns c = λ id.
    let end = nodes_end c.args.kids.now c.loop-node.node-index (omega arith) in
    let now = notes_at c.loop-node.found id in
    sym (ap (λ (ns : Nodes). now ++ filter (has_id id) (notes_of c.args.note ns)) end ∙ append-nil now)
    ∙ c.loop-node.invariant id
