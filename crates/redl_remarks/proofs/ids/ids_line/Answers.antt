-- The id of one comment more.
use Rattle.std.proofs.Common.{◌++◌, List, ℕ, ap, arith, get_or, slice_get, sym, ◌∙◌}
use Rattle.redl_remarks.specs.Ids.{spaced_id}
use Rattle.redl_remarks.proofs.RemarkLaws.{spaced-more}
use Rattle.redl_remarks.proofs.ids.ids_line.Goals as goal

pub loop-place-preserved : goal.loop-place-preserved
loop-place-preserved c =
    let comments = c.args.comments.now in
    let places = c.args.places.now in
    let i = c.loop-place.place-index in
    c.in_ok-add_id.ensures
    ∙ ap (λ (ids : List ℕ). ids ++ spaced_id (slice_get comments (get_or places i 0))) c.loop-place.invariant
    ∙ sym (spaced-more comments places i (omega arith))
