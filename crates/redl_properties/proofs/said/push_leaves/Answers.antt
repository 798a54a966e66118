-- The element at this place comes after those before it.
use Rattle.std.proofs.Common.{◌<◌, ◌∙◌, ◌++◌, List, length, refl, ap, arith, add-one}
use Rattle.std.proofs.lemmas.Option.{slice_get_read}
use Rattle.redl_properties.specs.Said.{leaf_said}
use Rattle.redl_properties.specs.declared.attribute.Attribute.{Attribute}
use Rattle.redl_properties.proofs.PieceLaws.{piece-more}
use Rattle.redl_properties.proofs.said.push_leaves.Goals as goal

pub loop-place-preserved : goal.loop-place-preserved
loop-place-preserved c =
    let leaves = c.args.leaves.now in
    let place = c.loop-place.place in
    let within : place < length leaves = omega arith in
    let read = slice_get_read leaves (length leaves) place c.index-leaves-place.result refl within c.index-leaves-place.is in
    rw (add-one, read)
    (piece-more _ _ _ _ _ _ _ c.loop-place.invariant c.in_ok-push_between.ensures
    (c.in_ok-push_leaf.ensures ∙ ap (λ (leaf : List Attribute). c.push_between.new.line.items ++ leaf_said c.args.way leaf) c.list.ensures))
