use Rattle.std.proofs.Common.{◌+◌, arith, refl, ap, ◌∙◌, drop}
use Rattle.redl_io.proofs.Puts.{puts_then, puts_fails, so_far_begins, so_far_goes_on, so_far_stops, so_far_ends}
use Rattle.redl_tree.specs.Model.View.{nodes_of, item_of, tag_of, kids_of}
use Rattle.redl_tree.proofs.Model.Laws.{nodes_here, nodes_end}
use Rattle.redl_marked.specs.Inside.Walks.{marked, item_marked}
use Rattle.redl_marked.proofs.WalkLaws.{marked-in_front, elem_text}
use Rattle.redl_marked.proofs.walk.+marked.Goals as goal

pub put_nodes-loop-node-init : goal.put_nodes-loop-node-init
put_nodes-loop-node-init g t c = so_far_begins _ _

pub put_nodes-returns-in_err-put_node : goal.put_nodes-returns-in_err-put_node
put_nodes-returns-in_err-put_node g t c =
    let above = c.args.above in
    let here = nodes_here c.args.nodes.now c.loop-node.node-index c.node-item.result (omega arith) c.node-item.is in
    let rest = nodes_of (drop (c.loop-node.node-index + 1) c.args.nodes.now) in
    so_far_stops (item_marked above (item_of c.node-item.result)) (marked above rest) (ap (marked above) here ∙ marked-in_front above (item_of c.node-item.result) rest)
    c.from_residual.ensures.1 c.loop-node.invariant c.in_err-put_node.ensures

pub put_nodes-loop-node-preserved : goal.put_nodes-loop-node-preserved
put_nodes-loop-node-preserved g t c =
    let above = c.args.above in
    let here = nodes_here c.args.nodes.now c.loop-node.node-index c.node-item.result (omega arith) c.node-item.is in
    let rest = nodes_of (drop (c.loop-node.node-index + 1) c.args.nodes.now) in
    so_far_goes_on (item_marked above (item_of c.node-item.result)) (marked above rest) (ap (marked above) here ∙ marked-in_front above (item_of c.node-item.result) rest)
    c.loop-node.invariant c.in_ok-put_node.ensures

pub put_nodes-returns : goal.put_nodes-returns
put_nodes-returns g t c =
    so_far_ends (ap (marked c.args.above) (nodes_end c.args.nodes.now c.loop-node.node-index (omega arith))) c.loop-node.invariant

pub put_elem-returns-in_err-put_elem_start : goal.put_elem-returns-in_err-put_elem_start
put_elem-returns-in_err-put_elem_start g t c = puts_fails _ refl c.from_residual.ensures.1 c.in_err-put_elem_start.ensures

pub put_elem-returns-in_err-put_nodes : goal.put_elem-returns-in_err-put_nodes
put_elem-returns-in_err-put_nodes g t c =
    puts_then (elem_text c.args.above c.inside.result (tag_of c.args.elem.now) (kids_of c.args.elem.now) (nodes_of c.kids.result.now) c.inside.ensures c.kids.ensures.kids)
    c.in_ok-put_elem_start.ensures (puts_fails _ refl c.from_residual-in_err-put_nodes.ensures.1 c.in_err-put_nodes.ensures)

pub put_elem-returns : goal.put_elem-returns
put_elem-returns g t c =
    puts_then (elem_text c.args.above c.inside.result (tag_of c.args.elem.now) (kids_of c.args.elem.now) (nodes_of c.kids.result.now) c.inside.ensures c.kids.ensures.kids)
    c.in_ok-put_elem_start.ensures (puts_then refl c.in_ok-put_nodes.ensures c.put_elem_end.ensures)
