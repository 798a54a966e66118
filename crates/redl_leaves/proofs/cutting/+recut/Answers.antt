use Rattle.std.proofs.Common.{◌≡◌, ◌<◌, ◌-◌, length, get_or, take, drop, ap, ◌∙◌, arith}
use Rattle.std.proofs.lemmas.List.{take_all, length-drop}
use Rattle.redl_leaves.proofs.CutSlotLaws.{recut-here, recut-beyond, recut-end}
use Rattle.redl_leaves.specs.Inside.Mends.{recut_in}
use Rattle.redl_leaves.specs.View.{view_of, states_of}
use Rattle.redl_leaves.proofs.cutting.+recut.Goals as goal

pub recut_at-returns-in-empty : goal.recut_at-returns-in-empty
recut_at-returns-in-empty t c = recut-end c.args.says.now c.args.way.now (states_of c.args.slots.now) c.in-empty.len_below

pub recut_at-returns-then-at-slots : goal.recut_at-returns-then-at-slots
recut_at-returns-then-at-slots t c =
    let says = c.args.says.now in
    let way = c.args.way.now in
    let slots = c.args.slots.now in
    let x = get_or slots (get_or way 0 0) c.index-slots-at.result in
    let x_is : x ≡ get_or slots (get_or way 0 0) x = ap (λ d. get_or slots (get_or way 0 0) d) c.index-slots-at.is in
    let within : get_or way 0 0 < length slots = omega (arith, c.if-at-slots.true) in
    let rest = drop 1 way in
    let whole : take (length way - 1) rest ≡ rest = take_all (length way - 1) rest (omega (arith, length-drop 1 way)) in
    let made = c.recut_slot.ensures in
    recut-here says way slots x c.recut_slot.new.slot c.in-len1-up.len_at_least within x_is (made ∙ ap (λ w. recut_in says w (view_of x)) whole)

pub recut_at-returns-else-at-slots : goal.recut_at-returns-else-at-slots
recut_at-returns-else-at-slots t c =
    recut-beyond c.args.says.now c.args.way.now c.args.slots.now c.in-len1-up.len_at_least (omega (arith, c.if-at-slots.false))
