use Rattle.std.proofs.Common.{◌≡◌, ◌+◌, ◌-◌, length, take, Some, None, sym, ap, ◌∙◌, arith}
use Rattle.redl_tree.specs.Model.View.{tag_of, kids_of, nodes_of}
use Rattle.redl_marked.specs.Inside.Walks.{start_of, end_of, inside, marked, last_of}
use Rattle.redl_marked.proofs.LastLaws.{last_end, last_inner, inner_last, from_end}
use Rattle.redl_marked.proofs.last.+last.Goals as goal

pub last_of_elem-returns-in-Some : goal.last_of_elem-returns-in-Some
last_of_elem-returns-in-Some t c =
    let tag = tag_of c.args.elem.now in
    last_end (start_of c.args.above tag) (marked (inside tag c.args.above) (kids_of c.args.elem.now)) (end_of c.args.above tag (kids_of c.args.elem.now)) c.in-Some.last c.in-Some.ensures

pub last_of_elem-returns-in-None : goal.last_of_elem-returns-in-None
last_of_elem-returns-in-None t c =
    let tag = tag_of c.args.elem.now in
    let kids = kids_of c.args.elem.now in
    last_inner (start_of c.args.above tag) (marked (inside tag c.args.above) kids) (end_of c.args.above tag kids)
    c.last_of_start.result c.last_of_nodes.result c.or.result c.last_of_start.ensures
    (inner_last c.args.above c.inside.result tag kids (nodes_of c.kids.result.now) c.last_of_nodes.result c.inside.ensures c.kids.ensures.kids c.last_of_nodes.ensures)
    c.in-None.ensures c.or.ensures

pub last_of_nodes-returns-in-Some : goal.last_of_nodes-returns-in-Some
last_of_nodes-returns-in-Some t c =
    let nodes = c.args.nodes.now in
    let i = c.loop-i.i in
    from_end c.args.above nodes i (length nodes - 1 - i) (c.index-nodes-nodes).result (Some c.in-Some.last) (last_of (marked c.args.above (nodes_of nodes)))
    (omega arith) (omega arith) (c.index-nodes-nodes).is (sym c.in-Some.is ∙ c.last_of_node.ensures) c.loop-i.invariant

pub last_of_nodes-loop-i-preserved : goal.last_of_nodes-loop-i-preserved
last_of_nodes-loop-i-preserved t c =
    let nodes = c.args.nodes.now in
    let i = c.loop-i.i in
    let k : length nodes - (i + 1) ≡ length nodes - 1 - i = omega arith in
    ap (λ n. last_of (marked c.args.above (nodes_of (take n nodes)))) k
    ∙ from_end c.args.above nodes i (length nodes - 1 - i) (c.index-nodes-nodes).result None (last_of (marked c.args.above (nodes_of nodes)))
    (omega arith) (omega arith) (c.index-nodes-nodes).is (sym c.in-None.is ∙ c.last_of_node.ensures) c.loop-i.invariant
