-- The words at this place come after those before it.
use Rattle.std.proofs.Common.{◌<◌, ◌∙◌, ◌++◌, ℕ, List, length, refl, ap, arith, add-one}
use Rattle.std.proofs.lemmas.Option.{slice_get_read}
use Rattle.redl_properties.proofs.PieceLaws.{piece-more}
use Rattle.redl_properties.proofs.line.push_first.Goals as goal

pub loop-place-preserved : goal.loop-place-preserved
loop-place-preserved c =
    let told = c.args.told.now in
    let place = c.loop-place.place in
    let within : place < length told = omega arith in
    let read = slice_get_read told (length told) place c.index-told-place.result refl within c.index-told-place.is in
    rw (add-one, read)
    (piece-more _ _ _ _ _ _ _ c.loop-place.invariant c.in_ok-push_between.ensures
    (c.in_ok-extend_from_slice.ensures.items ∙ ap (λ (text : List ℕ). c.push_between.new.line.items ++ text) c.as_bytes.ensures.value))
