use Rattle.std.proofs.Common.{◌≡◌, ◌+◌, ◌<◌, ◌^◌, List, vec_len, vec_capacity, drop, refl, sym, ap, ◌∙◌, ◌||◌, arith}
use Rattle.redl_tree.specs.Leaves.Leaf.{leaf_count}
use Rattle.redl_tree.specs.Leaves.States.{slots_of}
use Rattle.redl_editor.proofs.HoldLaws.{notes-more, notes-ended, slots-here, slots-end, count-here, slots-members-here, slots-members-end, on-err}
use Rattle.redl_editor.specs.Holdings.{slots_hold, view_holds, view_count, slots_members, view_members}
use Rattle.redl_leaves.proofs.ViewLaws.{container_of-fields}
use Rattle.redl_leaves.specs.View.{container_of, view_of, states_of}
use Rattle.redl_leaves.specs.declared.slots.Slot.{Slot}
use Rattle.redl_editor.proofs.holding.+hold.Goals as goal

pub note_slots-loop-slot-init : goal.note_slots-loop-slot-init
note_slots-loop-slot-init t c = record { next = refl; held = λ rev leaf. refl; len = refl; capacity = omega arith }

pub note_slots-loop-slot-preserved : goal.note_slots-loop-slot-preserved
note_slots-loop-slot-preserved t c =
    let slots = c.args.slots.now in
    let i = c.loop-slot.slot-index in
    let x = c.slot-item.result in
    let next = c.loop-slot.next in
    let after = slots_of (states_of (drop (i + 1) slots)) in
    let moved : c.in_ok-next.next ≡ next + view_count (view_of x) = c.in_ok-next.ensures.next in record {
      next = omega (arith, moved, c.loop-slot.invariant.next, count-here slots i x (omega arith) c.slot-item.is);
      held = notes-more (slots_hold next (slots_of (states_of (drop i slots)))) (slots_hold c.in_ok-next.next after) (view_holds next (view_of x))
          (slots_hold c.args.first (slots_of (states_of slots))) c.args.held.now.items c.loop-slot.held.items c.note_slot.new.held.items
          (λ rev leaf. slots-here next slots i x (omega arith) c.slot-item.is rev leaf ∙ ap (λ n. view_holds next (view_of x) rev leaf || slots_hold n after rev leaf) (sym moved))
          c.loop-slot.invariant.held c.in_ok-next.ensures.held;
      len = omega (arith, c.loop-slot.invariant.len, c.in_ok-next.ensures.len, slots-members-here slots i x (omega arith) c.slot-item.is);
      capacity = omega (arith, c.loop-slot.invariant.capacity, c.in_ok-next.ensures.capacity);
    }

pub note_slots-returns-in_err-next-clause-full : goal.note_slots-returns-in_err-next-clause-full
note_slots-returns-in_err-next-clause-full t c = λ few.
    let slots = c.args.slots.now in
    let i = c.loop-slot.slot-index in
    let x = c.slot-item.result in
    let counted = count-here slots i x (omega arith) c.slot-item.is in
    let fits : c.loop-slot.next + view_count (view_of x) < 2 ^ 32 = omega (arith, few, counted, c.loop-slot.invariant.next) in
    let lacks : vec_capacity c.args.held.now < vec_len c.args.held.now + slots_members (slots_of (states_of slots)) =
    omega (arith, c.in_err-next.ensures.full fits, slots-members-here slots i x (omega arith) c.slot-item.is, c.loop-slot.invariant.len, c.loop-slot.invariant.capacity) in
    on-err c.from_residual.result lacks

pub note_slots-returns-clause-len : goal.note_slots-returns-clause-len
note_slots-returns-clause-len t c = omega (arith, slots-members-end c.args.slots.now c.loop-slot.slot-index (omega arith), c.loop-slot.invariant.len)

pub note_slots-returns-clause-held : goal.note_slots-returns-clause-held
note_slots-returns-clause-held t c =
    let slots = c.args.slots.now in
    let i = c.loop-slot.slot-index in
    notes-ended (slots_hold c.loop-slot.next (slots_of (states_of (drop i slots)))) (slots_hold c.args.first (slots_of (states_of slots)))
    c.args.held.now.items c.loop-slot.held.items (slots-end c.loop-slot.next slots i (omega arith)) c.loop-slot.invariant.held

pub note_container-returns-in_err-next-clause-full : goal.note_container-returns-in_err-next-clause-full
note_container-returns-in_err-next-clause-full t c = λ few.
    let container = c.args.container.now in
    let inner = slots_of (states_of c.deref.result.now) in
    let counted : view_count (container_of container) ≡ leaf_count inner =
    ap view_count (container_of-fields container) ∙ ap (λ (xs : List Slot). leaf_count (slots_of (states_of xs))) (sym c.deref.ensures.value) in
    let noted : view_members (container_of container) ≡ slots_members inner =
    ap view_members (container_of-fields container) ∙ ap (λ (xs : List Slot). slots_members (slots_of (states_of xs))) (sym c.deref.ensures.value) in
    let fits : c.args.first + leaf_count inner < 2 ^ 32 = omega (arith, few, counted) in
    let lacks : vec_capacity c.args.held.now < vec_len c.args.held.now + view_members (container_of container) =
    omega (arith, c.in_err-next.ensures.full fits, noted) in
    on-err c.from_residual.result lacks
