use Rattle.std.proofs.Common.{◌∙◌, ◌++◌, sym, ap, arith, map, filter_map, List, drop, ◌+◌}
use Rattle.std.proofs.lemmas.List.{append-nil, drop_all}
use Rattle.redl_moves.specs.Marks.{markings, move_of}
use Rattle.redl_tree.specs.Revisions.Moves.{from_start}
use Rattle.redl_moves.specs.Places.{move_begun}
use Rattle.redl_moves.specs.declared.marker.Marker.{Marker}
use Rattle.redl_moves.specs.declared.marker.Move.{Move}
use Rattle.redl_moves.proofs.PairLaws.{move-added}
use Rattle.redl_moves.proofs.PlaceLaws.{paired-by_place}
use Rattle.redl_moves.proofs.pairing.paired.Goals as goal

pub loop-mark-preserved : goal.loop-mark-preserved
loop-mark-preserved c =
    let marks = c.args.marks.now in
    let whole = markings marks in
    let i = c.loop-mark.mark-index in
    let had = c.loop-mark.moves.items in
    ap (λ (ms : List Move). map move_of ms ++ filter_map (move_begun from_start whole) (markings (drop (i + 1) marks))) c.in_ok-add.ensures
    ∙ move-added whole marks i c.mark-item.result had c.move_begun-begun.result (omega (arith, c.loop-mark-test.true)) c.mark-item.is
    (c.move_begun-begun.ensures whole c.requires.ranges)
    ∙ c.loop-mark.invariant

pub returns : goal.returns
returns c =
    let marks = c.args.marks.now in
    let whole = markings marks in
    let had = map move_of c.loop-mark.moves.items in
    sym (append-nil had)
    ∙ ap (λ (ms : List Marker). had ++ filter_map (move_begun from_start whole) (markings ms)) (sym (drop_all c.loop-mark.mark-index marks (omega (arith, c.loop-mark-test.false))))
    ∙ c.loop-mark.invariant
    ∙ sym (paired-by_place whole c.requires.rising)
