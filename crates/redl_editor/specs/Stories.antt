-- The stories of a package, apart from its other nodes.
use Rattle.std.specs.Prelude.{List, [], ◌∷◌, map}
use Rattle.redl_leaves.specs.View.{states_of}
use Rattle.redl_tree.specs.Decisions.Packages.{StoryRule, changed_package}
use Rattle.redl_tree.specs.Leaves.Rebuilt.{original}
use Rattle.redl_tree.specs.Leaves.Slots.{Slots, no_slots}
use Rattle.redl_tree.specs.Leaves.States.{States, slots_of}
use Rattle.redl_tree.specs.Model.Nodes.{Nodes, no_nodes}
use Rattle.redl_tree.specs.Model.View.{nodes_of}
use Rattle.redl_tree.specs.declared.node.Node.{Node}
use Rattle.redl_editor.specs.declared.story.Story.{Story}

-- the root of each story has no kids
abbrev pub empty_rule : StoryRule (Unit {0})
empty_rule = record { kids = λ left tag kids. no_nodes; left = λ left tag kids. left }

-- the slots of the next story, and those of the later ones
abbrev pub next_slots : List Slots → Slots
next_slots [] = no_slots
next_slots (slots ∷ later) = slots

abbrev pub later_slots : List Slots → List Slots
later_slots [] = []
later_slots (slots ∷ later) = later

-- the root of each story has the kids that its slots were split from
abbrev pub original_rule : StoryRule (List Slots)
original_rule = record { kids = λ left tag kids. original (next_slots left); left = λ left tag kids. later_slots left }

-- the states and the slots of a story that is kept
abbrev pub states_kept : Story → States
states_kept story = states_of story.slots.items

abbrev pub slots_kept : Story → Slots
slots_kept story = slots_of (states_of story.slots.items)

-- the package that these nodes and stories were taken from
abbrev pub original_package : List Node → List Story → Nodes
original_package nodes stories = changed_package original_rule (map slots_kept stories) (nodes_of nodes)
