-- Node by node.
use Rattle.std.proofs.Common.{◌+◌, ◌++◌, ap, sym, ◌∙◌, arith, drop, List, append_assoc, append-nil}
use Rattle.std.proofs.lemmas.Result.{on_ok_weaker}
use Rattle.redl_tree.specs.Model.Nodes.{Nodes}
use Rattle.redl_tree.specs.Model.View.{nodes_of, item_of, tag_of, kids_of}
use Rattle.redl_tree.proofs.Model.Laws.{nodes_here, nodes_end}
use Rattle.redl_order.specs.References.{named_of, references}
use Rattle.redl_order.specs.declared.reference.Reference.{Reference}
use Rattle.redl_order.specs.Inside.Items.{item_references}
use Rattle.redl_order.proofs.FindLaws.{references-in_front}
use Rattle.redl_order.proofs.find.+find.Goals as goal

pub find_elem-returns : goal.find_elem-returns
find_elem-returns t c =
    let elem = c.args.elem.now in
    let old = c.args.seen.now.references.items in
    let own = named_of (tag_of elem) in
    on_ok_weaker c.find_nodes.result (λ e. e
    ∙ ap (λ (rs : List Reference). rs ++ references (nodes_of c.kids.result.now)) c.in_ok-add_own.ensures
    ∙ ap (λ (nodes : Nodes). (old ++ own) ++ references nodes) c.kids.ensures.kids
    ∙ append_assoc old own (references (kids_of elem))) c.find_nodes.ensures

pub find_nodes-loop-node-preserved : goal.find_nodes-loop-node-preserved
find_nodes-loop-node-preserved t c =
    let items = c.args.nodes.now in
    let i = c.loop-node.node-index in
    let x = c.node-item.result in
    let more = nodes_of (drop (i + 1) items) in
    let old = c.loop-node.seen.references.items in
    let here = nodes_here items i x (omega arith) c.node-item.is in
    ap (λ (rs : List Reference). rs ++ references more) c.in_ok-find_node.ensures
    ∙ append_assoc old (item_references (item_of x)) (references more)
    ∙ ap (λ (rs : List Reference). old ++ rs) (sym (ap references here ∙ references-in_front (item_of x) more))
    ∙ c.loop-node.invariant

pub find_nodes-returns : goal.find_nodes-returns
find_nodes-returns t c =
    let end = nodes_end c.args.nodes.now c.loop-node.node-index (omega arith) in
    let now = c.loop-node.seen.references.items in
    sym (ap (λ (ns : Nodes). now ++ references ns) end ∙ append-nil now)
    ∙ c.loop-node.invariant
