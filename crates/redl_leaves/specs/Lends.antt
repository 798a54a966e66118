-- What is lent, a slot at a time.
use Rattle.std.specs.Prelude.{ℕ, List, ◌||◌, Bool, Option, Some, None, if◌then◌else◌}
use denote.Ref.{Bor}
use Rattle.redl_tree.specs.Model.Nodes.{Nodes, no_nodes}
use Rattle.redl_tree.specs.Model.View.{nodes_of}
use Rattle.redl_tree.specs.Leaves.Ways.{lent_at}
use Rattle.redl_tree.specs.declared.node.Node.{Node}
use Rattle.redl_leaves.specs.declared.slots.Leaf.{Leaf as KeptLeaf}
use Rattle.redl_leaves.specs.View.{SlotView, leaf_view, container_view, present_of}

-- lent nodes
abbrev pub lent_nodes : Option (Bor (List Node)) → Option Nodes
lent_nodes None = None
lent_nodes (Some nodes) = Some (nodes_of nodes.now)

-- of a leaf
abbrev pub lent_leaf : Bool → KeptLeaf → Nodes
lent_leaf gone leaf = if gone then no_nodes else present_of leaf

-- of a slot, along the rest of a way
abbrev pub lent_in : Bool → List ℕ → SlotView → Option Nodes
lent_in gone way (leaf_view leaf present) = Some (if gone then no_nodes else present)
lent_in gone way (container_view tag tally inner) = lent_at (tally.gone || gone) way inner
