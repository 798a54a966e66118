-- The leaf at the end of a way, a slot at a time.
use Rattle.std.specs.Prelude.{ℕ, List, Option, Some, None}
use denote.Ref.{Bor}
use Rattle.redl_tree.specs.Leaves.Leaf.{leaf_size}
use Rattle.redl_tree.specs.Leaves.Slots.{Leaf}
use Rattle.redl_tree.specs.Leaves.States.{slots_of}
use Rattle.redl_tree.specs.Leaves.Ways.{leaf_at}
use Rattle.redl_leaves.specs.declared.slots.Leaf.{Leaf as KeptLeaf}
use Rattle.redl_leaves.specs.View.{SlotView, leaf_view, container_view, leaf_model}

-- a leaf that was found
abbrev pub found_leaf : Option (Bor KeptLeaf) → Option Leaf
found_leaf None = None
found_leaf (Some leaf) = Some (leaf_model leaf.now)

-- along the rest of a way
abbrev pub leaf_in : List ℕ → SlotView → Option Leaf
leaf_in way (leaf_view leaf present) = Some leaf
leaf_in way (container_view tag tally inner) = leaf_at way (slots_of inner)

-- the size of a leaf that may be there
abbrev pub size_at : Option Leaf → ℕ
size_at None = 0
size_at (Some leaf) = leaf_size leaf
