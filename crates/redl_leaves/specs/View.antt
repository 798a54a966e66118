-- What contracts see of the slots that are kept: states.
use Rattle.std.specs.Prelude.{List, [], ◌∷◌, map, Option, Some, None, Vec}
use Rattle.std.specs.Global.{Global}
use Rattle.redl_paras.specs.Pieces.{is_other}
use Rattle.redl_tree.specs.Model.Nodes.{Tag, Nodes}
use Rattle.redl_tree.specs.Model.View.{nodes_of, tag_of}
use Rattle.redl_tree.specs.Leaves.Slots.{Leaf, leaf_of}
use Rattle.redl_tree.specs.Leaves.States.{Tally, States, no_states, leaf_state, container_state}
use Rattle.redl_tree.specs.declared.node.Node.{Node}
use Rattle.redl_leaves.specs.declared.slots.Leaf.{Leaf as KeptLeaf}
use Rattle.redl_leaves.specs.declared.slots.Tally.{Tally as KeptTally}
use Rattle.redl_leaves.specs.declared.slots.Slot.{Slot, fold-Slot}
use Rattle.redl_leaves.specs.declared.slots.Slot.TheOpen.{Slot-F, Container-F}
use Rattle.redl_leaves.specs.declared.slots.Container.{Container, fold-Container}

-- one slot by itself
pub data SlotView : Type 0 where
  leaf_view : Leaf → Nodes → SlotView
  container_view : Tag → Tally → States → SlotView

-- a slot before others
abbrev pub before : SlotView → States → States
before (leaf_view leaf present) rest = leaf_state leaf present rest
before (container_view tag tally inner) rest = container_state tag tally inner rest

abbrev pub states_from : List SlotView → States
states_from [] = no_states
states_from (x ∷ xs) = before x (states_from xs)

-- the original of a leaf
abbrev pub leaf_model : KeptLeaf → Leaf
leaf_model leaf = leaf_of leaf.among_blocks (is_other leaf.next) (nodes_of leaf.original.items)

abbrev pub present_or : Nodes → Option (Vec Node Global) → Nodes
present_or original None = original
present_or original (Some present) = nodes_of present.items

-- the present nodes of a leaf
abbrev pub present_of : KeptLeaf → Nodes
present_of leaf = present_or (nodes_of leaf.original.items) leaf.present

abbrev pub tally_of : KeptTally → Tally
tally_of tally = record { cut = tally.cut; owned = tally.owned; living = tally.living; gone = tally.gone }

abbrev pub slot_step : Slot-F SlotView SlotView → SlotView
slot_step (Slot-F.Leaf leaf) = leaf_view (leaf_model leaf) (present_of leaf)
slot_step (Slot-F.Container container) = container.value

abbrev pub container_step : Container-F SlotView SlotView → SlotView
container_step c = container_view (tag_of c.elem) (tally_of c.tally) (states_from c.slots.items)

-- a slot as plain data
abbrev pub view_of : Slot → SlotView
view_of = fold-Slot SlotView SlotView slot_step container_step

-- a container as plain data
abbrev pub container_of : Container → SlotView
container_of = fold-Container SlotView SlotView slot_step container_step

-- the states of a list of slots
abbrev pub states_of : List Slot → States
states_of slots = states_from (map view_of slots)
