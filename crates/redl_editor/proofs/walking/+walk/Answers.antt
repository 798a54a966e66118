use Rattle.std.proofs.Common.{◌≡◌, ◌∷◌, [], ◌++◌, ◌-◌, length, length-append, take, ap, ◌∙◌, arith}
use Rattle.std.specs.Vec.{vec_len}
use Rattle.redl_editor.proofs.PlaceLaws.{take-front}
use Rattle.redl_editor.proofs.WalkLaws.{adds-slot, walk-more}
use Rattle.redl_leaves.specs.View.{view_of}
use Rattle.redl_editor.specs.Inside.Walks.{ways_in}
use Rattle.redl_editor.proofs.walking.+walk.Goals as goal

pub add_slot-returns : goal.add_slot-returns
add_slot-returns t c =
    let front = c.args.way.now.items in
    adds-slot (ways_in (view_of c.args.slot.now)) front c.push.new.self.items c.add_below.new.way.items c.pop.new.self.items c.args.at c.args.places.now c.add_below.new.places
    (c.in_ok-push.ensures.items ∙ ap (λ n. front ++ n ∷ []) c.in_ok-number.ensures.number)
    c.in_ok-add_below.ensures
    (λ is.
    let shorter : vec_len c.add_below.new.way - 1 ≡ length front = omega (arith, ap length is, length-append front (c.args.at ∷ [])) in
    c.pop.ensures.rest ∙ ap (take (vec_len c.add_below.new.way - 1)) is ∙ ap (λ n. take n (front ++ c.args.at ∷ [])) shorter ∙ take-front front (c.args.at ∷ []))

pub add_ways-loop-at-preserved : goal.add_ways-loop-at-preserved
add_ways-loop-at-preserved t c =
    let slots = c.args.slots.now in
    let at = c.loop-at.at in
    let x = c.index-slots-at.result in
    walk-more slots c.args.way.now.items c.loop-at.way.items c.add_slot.new.way.items c.args.places.now c.loop-at.places c.add_slot.new.places at x
    (omega (arith, c.loop-at-test.true, c.loop-at.auto.at-end)) c.index-slots-at.is c.loop-at.invariant c.in_ok-add_slot.ensures
