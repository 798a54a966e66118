use Rattle.std.proofs.Common.{◌≡◌, ◌++◌, take}
use Rattle.redl_properties.specs.Leaves.{set_at}
use Rattle.redl_properties.proofs.leaves.push_set.Given as goal

abbrev pub invariant-loop-leaf : goal.invariant-loop-leaf
invariant-loop-leaf l = l.set.items ≡ l.initial.set.items ++ set_at l.path (take l.leaf-index l.leaves)
