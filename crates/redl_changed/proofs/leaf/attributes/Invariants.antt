use Rattle.std.proofs.Common.{◌≡◌, [], length}
use Rattle.redl_markup.specs.Attributes.{attributes_of}
use Rattle.redl_changed.specs.Leaves.{attributes_kept}
use Rattle.redl_changed.proofs.leaf.attributes.Given as goal

-- the attributes that are left come after those so far
abbrev pub invariant-loop-attribute : goal.invariant-loop-attribute
invariant-loop-attribute l = attributes_kept l.path l.list.items (attributes_of l.left) ≡ attributes_kept l.path [] (attributes_of l.tail)

abbrev pub decreases-loop-attribute : goal.decreases-loop-attribute
decreases-loop-attribute l = length l.left
