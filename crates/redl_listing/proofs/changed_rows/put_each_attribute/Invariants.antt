use Rattle.std.proofs.Common.{◌≡◌, ◌++◌, take}
use Rattle.std.specs.List.{flat_map}
use Rattle.redl_listing.specs.Changed.{attribute_tokens}
use Rattle.redl_listing.proofs.changed_rows.put_each_attribute.Given as goal

abbrev pub invariant-loop-attribute : goal.invariant-loop-attribute
invariant-loop-attribute l = (l.object.tokens ≡ l.fn.object.tokens ++ flat_map attribute_tokens (take l.attribute-index l.attributes)) × (l.object.before ≡ l.fn.object.before)
