-- The changes of the attribute at this place come after those before it.
use Rattle.std.proofs.Common.{◌<◌, ◌∙◌, ◌++◌, ◌-◌, Option, drop, take, length, ap, add-one, arith}
use Rattle.redl_properties.specs.Changes.{attribute_change_at}
use Rattle.redl_properties.specs.declared.attribute.Attribute.{Attribute}
use Rattle.redl_properties.proofs.PieceLaws.{changes-more, found-is}
use Rattle.redl_properties.proofs.changes.push_attribute_changes.Goals as goal

pub loop-place-preserved : goal.loop-place-preserved
loop-place-preserved c =
    let set = c.args.set.now in
    let present = take c.args.present set in
    let former = take (length set - c.args.present) (drop c.args.present set) in
    let place = c.loop-place.place in
    let within : place < length set = omega arith in
    let looked = found-is set place c.get.result _ within c.get.ensures.lookup.1 c.get.ensures.lookup.3 in
    rw add-one
    (changes-more _ _ _ _ _ c.loop-place.invariant
    (c.in_ok-push_attribute_change_at.ensures
    ∙ ap (λ (attribute : Option Attribute). c.loop-place.changes.items ++ attribute_change_at c.args.path.now set present former place attribute) looked))
