use Rattle.std.proofs.Common.{◌≡◌, take}
use Rattle.redl_properties.specs.Leaves.{leaves_at}
use Rattle.redl_properties.proofs.leaves.leaves_at.Given as goal

abbrev pub invariant-loop-leaf : goal.invariant-loop-leaf
invariant-loop-leaf l = l.found.items ≡ leaves_at l.path (take l.leaf-index l.leaves)
