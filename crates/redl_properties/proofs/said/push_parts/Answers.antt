-- The part at this place comes after those before it.
use Rattle.std.proofs.Common.{◌<◌, length, refl, arith, add-one}
use Rattle.std.proofs.lemmas.Option.{slice_get_read}
use Rattle.redl_properties.proofs.PieceLaws.{piece-more}
use Rattle.redl_properties.proofs.said.push_parts.Goals as goal

pub loop-place-preserved : goal.loop-place-preserved
loop-place-preserved c =
    let attributes = c.args.attributes.now in
    let place = c.loop-place.place in
    let within : place < length attributes = omega arith in
    let read = slice_get_read attributes (length attributes) place c.index-attributes-place.result refl within c.index-attributes-place.is in
    rw (add-one, read) (piece-more _ _ _ _ _ _ _ c.loop-place.invariant c.in_ok-push_between.ensures c.in_ok-push_part.ensures)
