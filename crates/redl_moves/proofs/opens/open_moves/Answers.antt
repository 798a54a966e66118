use Rattle.std.proofs.Common.{◌∙◌, ◌+◌, ◌++◌, ◌∷◌, [], ap, sym, arith, drop, map, option_map, Option, List}
use Rattle.std.proofs.lemmas.List.{map-append, drop_all}
use Rattle.redl_moves.specs.Marks.{marking_of, markings, move_of}
use Rattle.redl_moves.specs.Places.{move_begun}
use Rattle.redl_moves.specs.Opens.{opens_over, find_last, is_open_at}
use Rattle.redl_moves.specs.declared.marker.Marker.{Marker}
use Rattle.redl_moves.specs.declared.marker.Move.{Move}
use Rattle.redl_moves.proofs.OpenLaws.{opens-step}
use Rattle.redl_moves.proofs.opens.open_moves.Goals as goal

pub loop-place-preserved : goal.loop-place-preserved
loop-place-preserved c =
    let marks = c.args.marks.now in
    let whole = markings marks in
    let side = c.args.side in
    let place = c.loop-place.place in
    let left = markings (drop (place + 1) marks) in
    let mark = c.index-marks-place.result in
    ap (λ (os : List (Option Move)). map (option_map move_of) os ++ opens_over side whole (map move_of c.add.new.moves.items) (place + 1) left) c.in_ok-push.ensures.items
    ∙ ap (λ (ms : List Move). map (option_map move_of) (c.loop-place.opens.items ++ c.in_ok-latest.latest ∷ []) ++ opens_over side whole (map move_of ms) (place + 1) left) c.in_ok-add.ensures
    ∙ opens-step side whole marks place mark c.loop-place.begun.items c.last_open.new.begun.items c.loop-place.opens.items c.in_ok-latest.latest c.move_begun-more.result
    (omega (arith, c.loop-place-test.true)) c.index-marks-place.is c.in_ok-latest.ensures.alike c.in_ok-latest.ensures.last
    (c.move_begun-more.ensures whole c.requires.ranges ∙ ap (λ e. move_begun e whole (marking_of mark)) c.start.ensures)
    ∙ c.loop-place.invariant

pub returns : goal.returns
returns c =
    let marks = c.args.marks.now in
    let whole = markings marks in
    let side = c.args.side in
    let place = c.loop-place.place in
    let had = map (option_map move_of) c.loop-place.opens.items in
    let begun = map move_of c.loop-place.begun.items in
    ap (map (option_map move_of)) c.in_ok-push-2.ensures.items
    ∙ map-append (option_map move_of) c.loop-place.opens.items (c.in_ok-latest-2.latest ∷ [])
    ∙ ap (λ o. had ++ o ∷ []) c.in_ok-latest-2.ensures.last
    ∙ ap (λ n. had ++ find_last (is_open_at side n) begun ∷ []) (omega (arith, c.loop-place-test.false))
    ∙ ap (λ (ms : List Marker). had ++ opens_over side whole begun place (markings ms)) (sym (drop_all place marks (omega (arith, c.loop-place-test.false))))
    ∙ c.loop-place.invariant
