use Rattle.std.proofs.Common.{◌≡◌, ◌++◌, take}
use Rattle.redl_properties.proofs.attribute.push_copies.Given as goal

abbrev pub invariant-loop-attribute : goal.invariant-loop-attribute
invariant-loop-attribute l = l.copies.items ≡ l.initial.copies.items ++ take l.attribute-index l.attributes
