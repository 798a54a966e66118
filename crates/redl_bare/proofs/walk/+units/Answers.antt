-- A walk puts the units of its nodes. The calls of the cycle have an answer each for their end and for a failed sink.
use Rattle.std.proofs.Common.{◌<◌, ◌+◌, ◌++◌, arith, refl, ap, sym, subst, ◌∙◌, drop, IfSome}
use Rattle.arrayvec.specs.ArrayVec.{array_vec_len}
use Rattle.redl_tree.specs.Model.View.{nodes_of, item_of, tag_of, kids_of}
use Rattle.redl_tree.proofs.Model.Laws.{nodes_here, nodes_end}
use Rattle.redl_bare.specs.Units.{start_units, units_in}
use Rattle.redl_bare.specs.Inside.Items.{held_at, ends_at, item_units}
use Rattle.redl_bare.specs.Inside.UnitLaws.{units_then, units_fail}
use Rattle.redl_bare.specs.Inside.Views.{marks_view, without_at}
use Rattle.redl_bare.proofs.LineLaws.{units_by, units_begin_by, units_go_on, units_stop, units_end, inside_put, inside_fails}
use Rattle.redl_bare.proofs.WalkLaws.{units-in_front, held_read, element_at, marks_by_items}
use Rattle.redl_bare.proofs.walk.+units.Goals as goal

pub put_nodes-loop-node-init : goal.put_nodes-loop-node-init
put_nodes-loop-node-init g t c = units_begin_by refl c.args.writer.now

pub put_nodes-returns-in_err-put_node : goal.put_nodes-returns-in_err-put_node
put_nodes-returns-in_err-put_node g t c =
    let place = c.args.place in
    let marks = marks_view c.args.writer.now.marks in
    let here = nodes_here c.args.nodes.now c.loop-node.node-index c.node-item.result (omega arith) c.node-item.is in
    let rest = nodes_of (drop (c.loop-node.node-index + 1) c.args.nodes.now) in
    units_stop (item_units place marks (item_of c.node-item.result)) (units_in place marks rest)
    (ap (units_in place marks) here ∙ units-in_front place marks (item_of c.node-item.result) rest)
    c.from_residual.ensures.1 c.loop-node.invariant
    (units_by (ap (λ m. item_units place (marks_view m) (item_of c.node-item.result)) (sym c.loop-node.invariant.after.marks)) c.in_err-put_node.ensures) refl

pub put_nodes-loop-node-preserved : goal.put_nodes-loop-node-preserved
put_nodes-loop-node-preserved g t c =
    let place = c.args.place in
    let marks = marks_view c.args.writer.now.marks in
    let here = nodes_here c.args.nodes.now c.loop-node.node-index c.node-item.result (omega arith) c.node-item.is in
    let rest = nodes_of (drop (c.loop-node.node-index + 1) c.args.nodes.now) in
    units_go_on (item_units place marks (item_of c.node-item.result)) (units_in place marks rest)
    (ap (units_in place marks) here ∙ units-in_front place marks (item_of c.node-item.result) rest)
    c.loop-node.invariant
    (units_by (ap (λ m. item_units place (marks_view m) (item_of c.node-item.result)) (sym c.loop-node.invariant.after.marks)) c.in_ok-put_node.ensures)

pub put_nodes-returns : goal.put_nodes-returns
put_nodes-returns g t c =
    units_end (ap (units_in c.args.place (marks_view c.args.writer.now.marks)) (nodes_end c.args.nodes.now c.loop-node.node-index (omega arith))) c.loop-node.invariant

pub put_elem-returns-in_err-put_start : goal.put_elem-returns-in_err-put_start
put_elem-returns-in_err-put_start g t c = units_fail _ refl refl c.from_residual.ensures.1 c.in_err-put_start.ensures

pub put_elem-returns-in_err-put_held : goal.put_elem-returns-in_err-put_held
put_elem-returns-in_err-put_held g t c =
    let place = c.args.place in
    let inside = c.inside-inside.result in
    let tag = tag_of c.args.elem.now in
    let kids = kids_of c.args.elem.now in
    let start = start_units place (marks_view c.args.writer.now.marks) tag in
    units_then
    (element_at place inside (marks_view c.args.writer.now.marks) tag kids c.inside-inside.ensures
    ∙ ap (λ m. start ++ (held_at inside (marks_view m) tag kids ++ ends_at inside place (marks_view m) tag)) (sym c.in_ok-put_start.ensures.after.marks))
    c.in_ok-put_start.ensures
    (units_fail _ refl refl c.from_residual-in_err-put_held.ensures.1 c.in_err-put_held.ensures)

pub put_elem-returns : goal.put_elem-returns
put_elem-returns g t c =
    let place = c.args.place in
    let inside = c.inside-inside.result in
    let tag = tag_of c.args.elem.now in
    let kids = kids_of c.args.elem.now in
    let start = start_units place (marks_view c.args.writer.now.marks) tag in
    let held = held_at inside (marks_view c.put_start.new.writer.marks) tag kids in
    units_then
    (element_at place inside (marks_view c.args.writer.now.marks) tag kids c.inside-inside.ensures
    ∙ ap (λ m. start ++ (held_at inside (marks_view m) tag kids ++ ends_at inside place (marks_view m) tag)) (sym c.in_ok-put_start.ensures.after.marks))
    c.in_ok-put_start.ensures
    (units_then (ap (λ m. held ++ ends_at inside place (marks_view m) tag) (sym c.in_ok-put_held.ensures.after.marks)) c.in_ok-put_held.ensures c.put_end.ensures)

pub put_held-returns-in_err-put_nodes : goal.put_held-returns-in_err-put_nodes
put_held-returns-in_err-put_nodes g t c =
    units_by (held_read c.args.inside (marks_view c.args.writer.now.marks) (marks_view c.enter-came.new.marks) (tag_of c.args.elem.now) (kids_of c.args.elem.now) (nodes_of c.kids.result.now)
    c.enter-came.ensures.marks c.kids.ensures.kids) (inside_fails c.args.writer.now _ c.enter-came.new.marks c.from_residual.ensures.1 c.in_err-put_nodes.ensures)

pub put_held-leave-requires : goal.put_held-leave-requires
put_held-leave-requires g t c =
    subst (λ m. IfSome c.enter-came.result (λ at. at < array_vec_len m.list)) (sym c.in_ok-put_nodes.ensures.after.marks) c.enter-came.ensures.within

pub put_held-returns : goal.put_held-returns
put_held-returns g t c =
    let back = marks_by_items c.leave.new.self c.args.writer.now.marks
    (c.leave.ensures ∙ ap (λ m. without_at c.enter-came.result m.list.items) c.in_ok-put_nodes.ensures.after.marks ∙ c.enter-came.ensures.back) in
    units_by (held_read c.args.inside (marks_view c.args.writer.now.marks) (marks_view c.enter-came.new.marks) (tag_of c.args.elem.now) (kids_of c.args.elem.now) (nodes_of c.kids.result.now)
    c.enter-came.ensures.marks c.kids.ensures.kids) (inside_put c.args.writer.now c.put_nodes.new.writer c.enter-came.new.marks c.leave.new.self c.in_ok-put_nodes.ensures back)
