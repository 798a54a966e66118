-- What a walk puts are the pieces of its nodes. It is long because each of three calls has an answer for a failed sink.
use Rattle.std.proofs.Common.{arith, ap, sym, ◌∙◌, drop, ◌+◌, ◌++◌}
use Rattle.redl_io.proofs.Puts.{puts_then, puts_fails, so_far_begins, so_far_goes_on, so_far_stops, so_far_ends}
use Rattle.redl_shown.specs.Shown.{shown}
use Rattle.redl_tree.specs.Model.View.{nodes_of, item_of, tag_of, kids_of}
use Rattle.redl_tree.proofs.Model.Laws.{item_of-Plain, nodes_here, nodes_end}
use Rattle.redl_page_stories.specs.Document.{nodes_pieces, end_as, inside}
use Rattle.redl_html.specs.Pieces.{pieces_text}
use Rattle.redl_page_stories.specs.Inside.Items.{item_pieces}
use Rattle.redl_page_stories.specs.Views.{facts_of}
use Rattle.redl_html.proofs.PieceLaws.{puts_is}
use Rattle.redl_page_stories.proofs.NodeLaws.{nodes_text, element_text-by}
use Rattle.redl_page_stories.proofs.nodes.+nodes.Goals as goal

pub put_nodes-loop-node-init : goal.put_nodes-loop-node-init
put_nodes-loop-node-init g t c = so_far_begins _ _

pub put_nodes-returns-in_err-put_node : goal.put_nodes-returns-in_err-put_node
put_nodes-returns-in_err-put_node g t c =
    let facts = facts_of c.args.facts.now in
    let place = c.args.place in
    let x = item_of c.node-item.result in
    let rest = nodes_of (drop (c.loop-node.node-index + 1) c.args.nodes.now) in
    so_far_stops (pieces_text (item_pieces shown facts place x)) (pieces_text (nodes_pieces shown facts place rest))
    (nodes_text shown facts place (nodes_of (drop c.loop-node.node-index c.args.nodes.now)) x rest (nodes_here c.args.nodes.now c.loop-node.node-index c.node-item.result (omega arith) c.node-item.is))
    c.from_residual.ensures.1 c.loop-node.invariant c.in_err-put_node.ensures

pub put_nodes-loop-node-preserved : goal.put_nodes-loop-node-preserved
put_nodes-loop-node-preserved g t c =
    let facts = facts_of c.args.facts.now in
    let place = c.args.place in
    let x = item_of c.node-item.result in
    let rest = nodes_of (drop (c.loop-node.node-index + 1) c.args.nodes.now) in
    so_far_goes_on (pieces_text (item_pieces shown facts place x)) (pieces_text (nodes_pieces shown facts place rest))
    (nodes_text shown facts place (nodes_of (drop c.loop-node.node-index c.args.nodes.now)) x rest (nodes_here c.args.nodes.now c.loop-node.node-index c.node-item.result (omega arith) c.node-item.is))
    c.loop-node.invariant c.in_ok-put_node.ensures

pub put_nodes-returns : goal.put_nodes-returns
put_nodes-returns g t c =
    so_far_ends (ap (λ n. pieces_text (nodes_pieces shown (facts_of c.args.facts.now) c.args.place n)) (nodes_end c.args.nodes.now c.loop-node.node-index (omega arith))) c.loop-node.invariant

pub put_node-returns-in-Plain : goal.put_node-returns-in-Plain
put_node-returns-in-Plain g t c =
    puts_is (ap (λ x. pieces_text (item_pieces shown (facts_of c.args.facts.now) c.args.place x)) (ap item_of c.in-Plain.is ∙ item_of-Plain c.in-Plain.plain)) c.put_idle.ensures

pub put_elem-returns-in_err-put_start : goal.put_elem-returns-in_err-put_start
put_elem-returns-in_err-put_start g t c =
    let facts = facts_of c.args.facts.now in
    let tag = tag_of c.args.elem.now in
    let kids = kids_of c.args.elem.now in
    let inner = nodes_pieces shown facts (inside facts.hidden tag kids c.args.place) kids in
    puts_fails _ (element_text-by facts c.args.place tag kids inner c.of-shape.result c.of-shape.ensures)
    c.from_residual.ensures.1 c.in_err-put_start.ensures

pub put_elem-returns-in_err-put_nodes : goal.put_elem-returns-in_err-put_nodes
put_elem-returns-in_err-put_nodes g t c =
    let facts = facts_of c.args.facts.now in
    let tag = tag_of c.args.elem.now in
    let kids = kids_of c.args.elem.now in
    let inner = nodes_pieces shown facts (inside facts.hidden tag kids c.args.place) kids in
    puts_then (element_text-by facts c.args.place tag kids inner c.of-shape.result c.of-shape.ensures) c.in_ok-put_start.ensures
    (puts_fails _
    (ap (λ p. pieces_text (nodes_pieces shown facts p kids) ++ pieces_text (end_as facts.revisions c.of-shape.result kids tag.kind)) (sym c.inside.ensures)
    ∙ ap (λ n. pieces_text (nodes_pieces shown facts c.inside.result n) ++ pieces_text (end_as facts.revisions c.of-shape.result kids tag.kind)) (sym c.kids.ensures.kids))
    c.from_residual-in_err-put_nodes.ensures.1 c.in_err-put_nodes.ensures)

pub put_elem-returns : goal.put_elem-returns
put_elem-returns g t c =
    let facts = facts_of c.args.facts.now in
    let tag = tag_of c.args.elem.now in
    let kids = kids_of c.args.elem.now in
    let inner = nodes_pieces shown facts (inside facts.hidden tag kids c.args.place) kids in
    puts_then (element_text-by facts c.args.place tag kids inner c.of-shape.result c.of-shape.ensures) c.in_ok-put_start.ensures
    (puts_then
    (ap (λ p. pieces_text (nodes_pieces shown facts p kids) ++ pieces_text (end_as facts.revisions c.of-shape.result kids tag.kind)) (sym c.inside.ensures)
    ∙ ap (λ n. pieces_text (nodes_pieces shown facts c.inside.result n) ++ pieces_text (end_as facts.revisions c.of-shape.result kids tag.kind)) (sym c.kids.ensures.kids))
    c.in_ok-put_nodes.ensures c.put_end.ensures)
