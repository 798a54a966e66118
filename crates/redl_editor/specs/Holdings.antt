-- Which leaves hold a member or a marker of which revisions. Leaves count from 0 in the order of the text.
use Rattle.std.specs.Prelude.{ℕ, ◌+◌, ◌==◌, ◌≡◌, List, Bool, false, ◌&&◌, ◌||◌, not, if◌then◌else◌}
use Rattle.std.specs.List.{list_any}
use Rattle.std.specs.List.Sorted.{IsNonDecreasingBy}
use Rattle.redl_tree.specs.Leaves.Leaf.{leaf_count}
use Rattle.redl_tree.specs.Leaves.Settings.{has_member}
use Rattle.redl_tree.specs.Leaves.Slots.{Slots, no_slots, leaf_slot, container_slot}
use Rattle.redl_tree.specs.Leaves.States.{slots_of}
use Rattle.redl_tree.specs.Model.IdleTexts.{idle_nodes}
use Rattle.redl_tree.specs.Model.Nodes.{Nodes, no_nodes, bytes, element, Item, bytes_item, element_item, idle_item}
use Rattle.redl_leaves.specs.Members.{item_member}
use Rattle.redl_leaves.specs.View.{SlotView, leaf_view, container_view}
use Rattle.redl_editor.specs.declared.holding.Held.{Held}

-- this number is that of this revision: numbers of revisions begin with 1
abbrev pub is_rev : ℕ → ℕ → Bool
is_rev rev n = not (n == 0) && n == rev

-- it is noted that this leaf holds one of this revision
abbrev pub is_held : List Held → ℕ → ℕ → Bool
is_held held rev leaf = list_any (λ one. one.rev == rev && one.leaf == leaf) held

-- what is noted of nodes, of one node and of slots, where the nodes are in the leaf with this number, and the first of the slots'
-- leaves has this number
abbrev pub nodes_hold : ℕ → Nodes → ℕ → ℕ → Bool
nodes_hold here nodes rev leaf = has_member (is_rev rev) nodes && here == leaf

abbrev pub item_holds : ℕ → Item → ℕ → ℕ → Bool
item_holds here item rev leaf = item_member (is_rev rev) item && here == leaf

abbrev pub slots_hold : ℕ → Slots → ℕ → ℕ → Bool
slots_hold first no_slots rev leaf = false
slots_hold first (leaf_slot here rest) rev leaf = nodes_hold first here.nodes rev leaf || slots_hold (first + 1) rest rev leaf
slots_hold first (container_slot tag kids inner rest) rev leaf = slots_hold first inner rev leaf || slots_hold (first + leaf_count inner) rest rev leaf

abbrev pub view_holds : ℕ → SlotView → ℕ → ℕ → Bool
view_holds first (leaf_view here present) rev leaf = nodes_hold first here.nodes rev leaf
view_holds first (container_view tag tally inner) rev leaf = slots_hold first (slots_of inner) rev leaf

-- how many leaves a slot has
abbrev pub view_count : SlotView → ℕ
view_count (leaf_view here present) = 1
view_count (container_view tag tally inner) = leaf_count (slots_of inner)

-- how many elements of nodes at every depth, of one node, of slots and of one slot have the number of a revision
abbrev pub member_count : Nodes → ℕ
member_count no_nodes = 0
member_count (bytes b rest) = member_count rest
member_count (element tag kids rest) = (if tag.rev == 0 then 0 else 1) + member_count kids + member_count rest

abbrev pub item_members : Item → ℕ
item_members (bytes_item b) = 0
item_members (element_item tag kids) = (if tag.rev == 0 then 0 else 1) + member_count kids
item_members (idle_item t) = member_count (idle_nodes t)

abbrev pub slots_members : Slots → ℕ
slots_members no_slots = 0
slots_members (leaf_slot here rest) = member_count here.nodes + slots_members rest
slots_members (container_slot tag kids inner rest) = slots_members inner + slots_members rest

abbrev pub view_members : SlotView → ℕ
view_members (leaf_view here present) = member_count here.nodes
view_members (container_view tag tally inner) = slots_members (slots_of inner)

-- this was noted, and nothing else
abbrev pub Notes : (ℕ → ℕ → Bool) → List Held → List Held → Type 0
Notes more old new = (rev leaf : ℕ) → is_held new rev leaf ≡ (is_held old rev leaf || more rev leaf)

-- these notes are of these slots, in the order of revisions
pub record HoldsOf (held : List Held) (slots : Slots) : Type 0 where
  pub rises : IsNonDecreasingBy (λ one. one.rev) held
  pub holds : (rev leaf : ℕ) → is_held held rev leaf ≡ slots_hold 0 slots rev leaf

-- this leaf is among these
abbrev pub is_touched : List ℕ → ℕ → Bool
is_touched leaves leaf = list_any (λ n. n == leaf) leaves

-- it is noted that this leaf holds one of one of these revisions
abbrev pub some_held : List Held → List ℕ → ℕ → Bool
some_held held revs leaf = list_any (λ rev. is_held held rev leaf) revs
