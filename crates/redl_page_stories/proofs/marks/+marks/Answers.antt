use Rattle.std.proofs.Common.{arith, ap, drop, ◌+◌}
use Rattle.redl_io.proofs.Puts.{so_far_begins, so_far_goes_on, so_far_stops, so_far_ends}
use Rattle.redl_tree.specs.Model.View.{nodes_of, item_of}
use Rattle.redl_tree.proofs.Model.Laws.{nodes_here, nodes_end}
use Rattle.redl_page_stories.specs.Document.{marks_in}
use Rattle.redl_html.specs.Pieces.{pieces_text}
use Rattle.redl_page_stories.specs.Inside.Items.{item_marks}
use Rattle.redl_page_stories.proofs.NodeLaws.{marks_text}
use Rattle.redl_page_stories.proofs.marks.+marks.Goals as goal

pub put_marks-loop-node-init : goal.put_marks-loop-node-init
put_marks-loop-node-init g t c = so_far_begins _ _

pub put_marks-returns-in_err-put_node_marks : goal.put_marks-returns-in_err-put_node_marks
put_marks-returns-in_err-put_node_marks g t c =
    let index = c.args.index.now in
    let depth = c.args.depth in
    let x = item_of c.node-item.result in
    let rest = nodes_of (drop (c.loop-node.node-index + 1) c.args.nodes.now) in
    so_far_stops (pieces_text (item_marks index depth x)) (pieces_text (marks_in index depth rest))
    (marks_text index depth (nodes_of (drop c.loop-node.node-index c.args.nodes.now)) x rest (nodes_here c.args.nodes.now c.loop-node.node-index c.node-item.result (omega arith) c.node-item.is))
    c.from_residual.ensures.1 c.loop-node.invariant c.in_err-put_node_marks.ensures

pub put_marks-loop-node-preserved : goal.put_marks-loop-node-preserved
put_marks-loop-node-preserved g t c =
    let index = c.args.index.now in
    let depth = c.args.depth in
    let x = item_of c.node-item.result in
    let rest = nodes_of (drop (c.loop-node.node-index + 1) c.args.nodes.now) in
    so_far_goes_on (pieces_text (item_marks index depth x)) (pieces_text (marks_in index depth rest))
    (marks_text index depth (nodes_of (drop c.loop-node.node-index c.args.nodes.now)) x rest (nodes_here c.args.nodes.now c.loop-node.node-index c.node-item.result (omega arith) c.node-item.is))
    c.loop-node.invariant c.in_ok-put_node_marks.ensures

pub put_marks-returns : goal.put_marks-returns
put_marks-returns g t c =
    so_far_ends (ap (λ n. pieces_text (marks_in c.args.index.now c.args.depth n)) (nodes_end c.args.nodes.now c.loop-node.node-index (omega arith))) c.loop-node.invariant
