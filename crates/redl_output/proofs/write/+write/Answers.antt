-- What is written is the text of the nodes. It is long because each of four calls has an answer for a failed sink.
use Rattle.std.proofs.Common.{◌≡◌, [], arith, refl, sym, ap, ◌∙◌, drop, ◌+◌}
use Rattle.redl_io.proofs.Puts.{puts_then, puts_fails, so_far_begins, so_far_goes_on, so_far_stops, so_far_ends}
use Rattle.redl_tree.specs.Model.Nodes.{no_nodes, Empty, End}
use Rattle.redl_tree.specs.Model.Text.{text, item_text, element_text}
use Rattle.redl_tree.specs.Model.View.{Held, held_of, spaced_of, tagged, nodes_of, item_of}
use Rattle.redl_tree.proofs.Model.Held.{held_of-Empty, held_of-Kids, held_of-Spaced, spaced_of-fields}
use Rattle.redl_tree.proofs.Model.Laws.{nodes_here, nodes_end, text-in_front}
use Rattle.redl_output.proofs.write.+write.Goals as goal

pub write_nodes-loop-node-init : goal.write_nodes-loop-node-init
write_nodes-loop-node-init g t c = so_far_begins _ _

pub write_nodes-returns-in_err-write_node : goal.write_nodes-returns-in_err-write_node
write_nodes-returns-in_err-write_node g t c =
    let here = nodes_here c.args.nodes.now c.loop-node.node-index c.node-item.result (omega arith) c.node-item.is in
    let rest = nodes_of (drop (c.loop-node.node-index + 1) c.args.nodes.now) in
    so_far_stops (item_text (item_of c.node-item.result)) (text rest) (ap text here ∙ text-in_front (item_of c.node-item.result) rest)
    c.from_residual.ensures.1 c.loop-node.invariant c.in_err-write_node.ensures

pub write_nodes-loop-node-preserved : goal.write_nodes-loop-node-preserved
write_nodes-loop-node-preserved g t c =
    let here = nodes_here c.args.nodes.now c.loop-node.node-index c.node-item.result (omega arith) c.node-item.is in
    let rest = nodes_of (drop (c.loop-node.node-index + 1) c.args.nodes.now) in
    so_far_goes_on (item_text (item_of c.node-item.result)) (text rest) (ap text here ∙ text-in_front (item_of c.node-item.result) rest)
    c.loop-node.invariant c.in_ok-write_node.ensures

pub write_nodes-returns : goal.write_nodes-returns
write_nodes-returns g t c =
    so_far_ends (ap text (nodes_end c.args.nodes.now c.loop-node.node-index (omega arith))) c.loop-node.invariant

pub write_elem-returns-in_err-write_start : goal.write_elem-returns-in_err-write_start
write_elem-returns-in_err-write_start g t c = puts_fails _ refl c.from_residual.ensures.1 c.in_err-write_start.ensures

pub write_elem-returns-in-Empty : goal.write_elem-returns-in-Empty
write_elem-returns-in-Empty g t c =
    let held : held_of c.args.elem.now.body ≡ record { kids = no_nodes; close = Empty } = ap held_of c.in-Empty.is ∙ held_of-Empty in
    puts_then (ap (λ (h : Held). element_text (tagged c.args.elem.now.tag h.close) (text h.kids)) held)
    c.in_ok-write_start.ensures c.put_piece.ensures

pub write_elem-returns-in-Kids : goal.write_elem-returns-in-Kids
write_elem-returns-in-Kids g t c =
    let held : held_of c.args.elem.now.body ≡ record { kids = nodes_of c.in-Kids.kids.items; close = End [] } =
    ap held_of c.in-Kids.is ∙ held_of-Kids c.in-Kids.kids in
    let kids = rw c.deref.ensures.value at c.write_kids.ensures in
    puts_then (ap (λ (h : Held). element_text (tagged c.args.elem.now.tag h.close) (text h.kids)) held)
    c.in_ok-write_start.ensures kids

pub write_elem-returns-in-Spaced : goal.write_elem-returns-in-Spaced
write_elem-returns-in-Spaced g t c =
    let held : held_of c.args.elem.now.body ≡ record { kids = nodes_of c.deref-in-Spaced.result.now.kids.items; close = End c.deref-in-Spaced.result.now.white.now } =
    ap held_of c.in-Spaced.is ∙ held_of-Spaced c.in-Spaced.spaced ∙ ap spaced_of (sym c.deref-in-Spaced.ensures)
    ∙ spaced_of-fields c.deref-in-Spaced.result.now in
    puts_then (ap (λ (h : Held). element_text (tagged c.args.elem.now.tag h.close) (text h.kids)) held)
    c.in_ok-write_start.ensures c.write_spaced.ensures

pub write_kids-returns-in_err-put_piece : goal.write_kids-returns-in_err-put_piece
write_kids-returns-in_err-put_piece g t c = puts_fails _ refl c.from_residual.ensures.1 c.in_err-put_piece.ensures

pub write_kids-returns-in_err-write_nodes : goal.write_kids-returns-in_err-write_nodes
write_kids-returns-in_err-write_nodes g t c =
    puts_then refl c.in_ok-put_piece.ensures
    (puts_fails _ refl c.from_residual-in_err-write_nodes.ensures.1 c.in_err-write_nodes.ensures)

pub write_kids-returns : goal.write_kids-returns
write_kids-returns g t c =
    puts_then refl c.in_ok-put_piece.ensures (puts_then refl c.in_ok-write_nodes.ensures c.write_end.ensures)
