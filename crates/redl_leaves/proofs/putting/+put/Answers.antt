use Rattle.std.proofs.Common.{◌≡◌, ◌<◌, ◌-◌, length, get_or, take, drop, sym, ap, ◌∙◌, arith}
use Rattle.std.proofs.lemmas.List.{take_all, length-drop}
use Rattle.redl_leaves.proofs.FindLaws.{find-here}
use Rattle.redl_leaves.proofs.PutLaws.{put-here, put-beyond, put-end}
use Rattle.redl_leaves.specs.Finds.{leaf_in}
use Rattle.redl_leaves.specs.Puts.{remade_in}
use Rattle.redl_leaves.specs.View.{view_of, states_of}
use Rattle.redl_leaves.proofs.putting.+put.Goals as goal

pub put_at-returns-in-empty : goal.put_at-returns-in-empty
put_at-returns-in-empty t c = λ _. put-end c.args.says.now c.args.way.now (states_of c.args.slots.now) c.in-empty.len_below

pub put_at-returns-then-at-slots : goal.put_at-returns-then-at-slots
put_at-returns-then-at-slots t c = λ is.
    let says = c.args.says.now in
    let way = c.args.way.now in
    let slots = c.args.slots.now in
    let x = get_or slots (get_or way 0 0) c.index-slots-at.result in
    let x_is : x ≡ get_or slots (get_or way 0 0) x = ap (λ d. get_or slots (get_or way 0 0) d) c.index-slots-at.is in
    let within : get_or way 0 0 < length slots = omega (arith, c.if-at-slots.true) in
    let rest = drop 1 way in
    let whole : take (length way - 1) rest ≡ rest = take_all (length way - 1) rest (omega (arith, length-drop 1 way)) in
    let there = find-here way slots x c.in-len1-up.len_at_least within x_is in
    let made = c.put_in.ensures (λ leaf found. is leaf (there ∙ ap (λ w. leaf_in w (view_of x)) (sym whole) ∙ found)) in
    put-here says way slots x c.put_in.new.slot c.in-len1-up.len_at_least within x_is (made ∙ ap (λ w. remade_in says w (view_of x)) whole)

pub put_at-returns-else-at-slots : goal.put_at-returns-else-at-slots
put_at-returns-else-at-slots t c = λ _.
    put-beyond c.args.says.now c.args.way.now c.args.slots.now c.in-len1-up.len_at_least (omega (arith, c.if-at-slots.false))
