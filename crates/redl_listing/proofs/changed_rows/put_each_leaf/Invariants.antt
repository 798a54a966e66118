use Rattle.std.proofs.Common.{◌≡◌, ◌++◌, take}
use Rattle.std.specs.List.{flat_map}
use Rattle.redl_listing.specs.Changed.{leaf_tokens}
use Rattle.redl_listing.proofs.changed_rows.put_each_leaf.Given as goal

abbrev pub invariant-loop-leaf : goal.invariant-loop-leaf
invariant-loop-leaf l = (l.object.tokens ≡ l.fn.object.tokens ++ flat_map leaf_tokens (take l.leaf-index l.leaves)) × (l.object.before ≡ l.fn.object.before)
