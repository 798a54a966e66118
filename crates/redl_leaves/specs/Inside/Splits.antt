-- What is split of a list so far, together with the siblings that are left.
use Rattle.std.specs.Prelude.{◌≡◌, ℕ, ◌+◌, List, [], ◌∷◌, ◌++◌, Bool, false, Option, None, Some, Vec, if◌then◌else◌}
use Rattle.std.specs.Global.{Global}
use Rattle.redl_tree.specs.Model.Nodes.{Tag, Nodes, no_nodes, bytes, element, Item, bytes_item, element_item, idle_item}
use Rattle.redl_tree.specs.Model.IdleTexts.{idle_nodes}
use Rattle.redl_tree.specs.Model.View.{nodes_of}
use Rattle.redl_tree.specs.Leaves.Slots.{Sibling, thin_sibling, leaf_of, sibling, slots_in}
use Rattle.redl_tree.specs.Leaves.States.{States, no_states, leaf_state, container_state, joined_states, fresh_states}
use Rattle.redl_tree.specs.Leaves.Waiting.{slots_left}
use Rattle.redl_tree.specs.declared.node.Node.{Node}
use Rattle.redl_leaves.specs.Spots.{is_own_at, is_between_at}
use Rattle.redl_leaves.specs.View.{SlotView, leaf_view, container_view, before, states_of}
use Rattle.redl_leaves.specs.declared.slots.Slot.{Slot}
use Rattle.redl_leaves.specs.declared.split.Splitting.{Splitting}
use Rattle.redl_leaves.specs.declared.spot.Spot.{Spot}

-- the chain that waits, if there is one
abbrev pub chain_of : Option (Vec Node Global) → Option Nodes
chain_of None = None
chain_of (Some chain) = Some (nodes_of chain.items)

-- a slot was added
abbrev pub AddsView : SlotView → List Slot → List Slot → Type 0
AddsView view old new = (rest : States) → joined_states (states_of new) rest ≡ joined_states (states_of old) (before view rest)

-- a leaf was added
abbrev pub AddsLeaf : Bool → Bool → Nodes → List Slot → List Slot → Type 0
AddsLeaf among_blocks followed nodes old new = AddsView (leaf_view (leaf_of among_blocks followed nodes) nodes) old new

-- each of these nodes as a leaf by itself, and later states
abbrev pub lone_states : Bool → Nodes → States → States
lone_states among_blocks no_nodes later = later
lone_states among_blocks (bytes b rest) later =
    leaf_state (leaf_of among_blocks false (bytes b no_nodes)) (bytes b no_nodes) (lone_states among_blocks rest later)
lone_states among_blocks (element tag kids rest) later =
    leaf_state (leaf_of among_blocks false (element tag kids no_nodes)) (element tag kids no_nodes) (lone_states among_blocks rest later)

-- leaves of one node each were added
abbrev pub AddsLone : Bool → Nodes → List Slot → List Slot → Type 0
AddsLone among_blocks nodes old new = (rest : States) → joined_states (states_of new) rest ≡ joined_states (states_of old) (lone_states among_blocks nodes rest)

-- what a chain gives that waited with these thin nodes after it, once it ends
abbrev pub ended : Bool → Bool → Option Nodes → Nodes → States → States
ended among_blocks followed None tail rest = rest
ended among_blocks followed (Some chain) tail rest = leaf_state (leaf_of among_blocks followed chain) chain (lone_states among_blocks tail rest)

-- all states, if these siblings are still to come
abbrev pub whole_of : Bool → List Tag → List Slot → Option Nodes → Nodes → List Sibling → States
whole_of among_blocks ancestors slots chain tail later =
    joined_states (states_of slots) (fresh_states ancestors (slots_left among_blocks chain tail later))

abbrev pub whole : Bool → List Tag → Splitting → List Sibling → States
whole among_blocks ancestors split later = whole_of among_blocks ancestors split.slots.items (chain_of split.chain) (nodes_of split.tail.items) later

-- one more sibling is added, whatever comes after it
abbrev pub AddsSibling : Bool → Splitting → Splitting → Sibling → Type 0
AddsSibling among_blocks old new sibling =
    (ancestors : List Tag) (later : List Sibling) → whole among_blocks ancestors new later ≡ whole among_blocks ancestors old (sibling ∷ later)

-- the same of some siblings
abbrev pub AddsSiblings : Bool → Splitting → Splitting → List Sibling → Type 0
AddsSiblings among_blocks old new more =
    (ancestors : List Tag) (later : List Sibling) → whole among_blocks ancestors new later ≡ whole among_blocks ancestors old (more ++ later)

-- each of these nodes as a thin sibling
abbrev pub thin_siblings : Nodes → List Sibling
thin_siblings no_nodes = []
thin_siblings (bytes b rest) = thin_sibling (bytes b no_nodes) ∷ thin_siblings rest
thin_siblings (element tag kids rest) = thin_sibling (element tag kids no_nodes) ∷ thin_siblings rest

-- what one node is to its siblings; idle elements that are kept as their text are siblings each by itself
abbrev pub item_siblings : (List Tag → Tag → Bool) → List Tag → Item → List Sibling
item_siblings opens ancestors (bytes_item b) = thin_sibling (bytes b no_nodes) ∷ []
item_siblings opens ancestors (element_item tag kids) = sibling opens ancestors tag kids (slots_in opens (tag ∷ ancestors) kids) ∷ []
item_siblings opens ancestors (idle_item t) = thin_siblings (idle_nodes t)

-- ---- own rows and cells

-- how many a slot adds to the container round it
abbrev pub share_at : Spot → SlotView → ℕ
share_at spot (leaf_view leaf present) = 0
share_at spot (container_view tag tally inner) = if is_own_at spot tag then 1 else if is_between_at spot tag then tally.owned else 0

abbrev pub owned_at : Spot → States → ℕ
owned_at spot no_states = 0
owned_at spot (leaf_state leaf present rest) = owned_at spot rest
owned_at spot (container_state tag tally inner rest) =
    (if is_own_at spot tag then 1 else if is_between_at spot tag then tally.owned else 0) + owned_at spot rest
