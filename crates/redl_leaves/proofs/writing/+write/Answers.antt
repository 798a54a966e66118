use Rattle.std.proofs.Common.{◌+◌, refl, sym, ap, ◌∙◌, drop, arith}
use Rattle.redl_io.proofs.Puts.{puts_then, puts_fails, so_far_begins, so_far_goes_on, so_far_stops, so_far_ends}
use Rattle.redl_tree.specs.Leaves.States.{shown}
use Rattle.redl_tree.specs.Model.Text.{text}
use Rattle.redl_tree.specs.Model.View.{tag_of, close_of}
use Rattle.redl_leaves.proofs.TextLaws.{text-before, element-ended, element-opened}
use Rattle.redl_leaves.proofs.ViewLaws.{states_here, states_end}
use Rattle.redl_leaves.specs.Inside.Texts.{shown_view}
use Rattle.redl_leaves.specs.View.{view_of, states_of}
use Rattle.redl_leaves.proofs.writing.+write.Goals as goal

pub write_slots-loop-slot-init : goal.write_slots-loop-slot-init
write_slots-loop-slot-init g t c = so_far_begins _ _

pub write_slots-returns-in_err-write_slot : goal.write_slots-returns-in_err-write_slot
write_slots-returns-in_err-write_slot g t c =
    let x = c.slot-item.result in
    let here = states_here c.args.slots.now c.loop-slot.slot-index x (omega arith) c.slot-item.is in
    let rest = states_of (drop (c.loop-slot.slot-index + 1) c.args.slots.now) in
    so_far_stops (text (shown_view (view_of x))) (text (shown rest)) (ap (λ s. text (shown s)) here ∙ text-before (view_of x) rest)
    c.from_residual.ensures.1 c.loop-slot.invariant c.in_err-write_slot.ensures

pub write_slots-loop-slot-preserved : goal.write_slots-loop-slot-preserved
write_slots-loop-slot-preserved g t c =
    let x = c.slot-item.result in
    let here = states_here c.args.slots.now c.loop-slot.slot-index x (omega arith) c.slot-item.is in
    let rest = states_of (drop (c.loop-slot.slot-index + 1) c.args.slots.now) in
    so_far_goes_on (text (shown_view (view_of x))) (text (shown rest)) (ap (λ s. text (shown s)) here ∙ text-before (view_of x) rest)
    c.loop-slot.invariant c.in_ok-write_slot.ensures

pub write_slots-returns : goal.write_slots-returns
write_slots-returns g t c =
    so_far_ends (ap (λ s. text (shown s)) (states_end c.args.slots.now c.loop-slot.slot-index (omega arith))) c.loop-slot.invariant

pub write_staying-returns-in_err-write_open : goal.write_staying-returns-in_err-write_open
write_staying-returns-in_err-write_open g t c =
    puts_fails _ (element-opened (tag_of c.args.container.now.elem) (text (shown (states_of c.args.container.now.slots.items))))
    c.from_residual.ensures.1 c.in_err-write_open.ensures

pub write_staying-returns-in_err-write_slots-in-Some : goal.write_staying-returns-in_err-write_slots-in-Some
write_staying-returns-in_err-write_slots-in-Some g t c =
    let close = sym c.close.ensures ∙ ap close_of c.in-Some.is in
    let kids = text (shown (states_of c.args.container.now.slots.items)) in
    let slots = rw c.deref.ensures.value at c.in_err-write_slots-in-Some.ensures in
    puts_then (sym (element-ended (tag_of c.args.container.now.elem) c.in-Some.space.now kids close)) c.in_ok-write_open.ensures
    (puts_fails _ refl c.from_residual-in_err-write_slots-in-Some.ensures.1 slots)

pub write_staying-returns-in_ok-write_slots-in-Some : goal.write_staying-returns-in_ok-write_slots-in-Some
write_staying-returns-in_ok-write_slots-in-Some g t c =
    let close = sym c.close.ensures ∙ ap close_of c.in-Some.is in
    let kids = text (shown (states_of c.args.container.now.slots.items)) in
    let slots = rw c.deref.ensures.value at c.in_ok-write_slots-in-Some.ensures in
    puts_then (sym (element-ended (tag_of c.args.container.now.elem) c.in-Some.space.now kids close)) c.in_ok-write_open.ensures
    (puts_then refl slots c.write_close.ensures)
