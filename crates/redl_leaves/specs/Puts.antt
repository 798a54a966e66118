-- The leaf at the end of a way made anew, a slot at a time. Tallies stay.
use Rattle.std.specs.Prelude.{ℕ, zero, suc, ◌≡◌, List, [], ◌∷◌, Some}
use Rattle.redl_tree.specs.Model.Nodes.{Tag, Nodes}
use Rattle.redl_tree.specs.Leaves.Present.{pass_leaf}
use Rattle.redl_tree.specs.Leaves.Slots.{Leaf}
use Rattle.redl_tree.specs.Leaves.States.{States, no_states, leaf_state, container_state, slots_of}
use Rattle.redl_tree.specs.Leaves.Ways.{leaf_at, tally_of}
use Rattle.redl_tree.specs.declared.kinds.Say.{Say}
use Rattle.redl_leaves.specs.Finds.{leaf_in}
use Rattle.redl_leaves.specs.View.{SlotView, leaf_view, container_view}

-- the same as `made_at`, but for the tallies
abbrev pub remade : List Say → List ℕ → States → States
remade says way no_states = no_states
remade says [] states = states
remade says (zero ∷ way) (leaf_state leaf present rest) = leaf_state leaf (pass_leaf says leaf) rest
remade says (zero ∷ way) (container_state tag tally inner rest) = container_state tag tally (remade says way inner) rest
remade says (suc n ∷ way) (leaf_state leaf present rest) = leaf_state leaf present (remade says (n ∷ way) rest)
remade says (suc n ∷ way) (container_state tag tally inner rest) = container_state tag tally inner (remade says (n ∷ way) rest)

abbrev pub remade_in : List Say → List ℕ → SlotView → SlotView
remade_in says way (leaf_view leaf present) = leaf_view leaf (pass_leaf says leaf)
remade_in says way (container_view tag tally inner) = container_view tag tally (remade says way inner)

-- these nodes are the pass of the leaf there
abbrev pub IsMade : List Say → List ℕ → Nodes → States → Type 0
IsMade says way made states = (leaf : Leaf) → leaf_at way (slots_of states) ≡ Some leaf → made ≡ pass_leaf says leaf

abbrev pub IsMadeIn : List Say → List ℕ → Nodes → SlotView → Type 0
IsMadeIn says way made slot = (leaf : Leaf) → leaf_in way slot ≡ Some leaf → made ≡ pass_leaf says leaf

-- the tallies of the containers on a way, under these says: leaves stay
abbrev pub mended : List Say → List Tag → List ℕ → States → States
mended says ancestors way no_states = no_states
mended says ancestors [] states = states
mended says ancestors (zero ∷ way) (leaf_state leaf present rest) = leaf_state leaf present rest
mended says ancestors (zero ∷ way) (container_state tag tally inner rest) =
    container_state tag (tally_of says ancestors tag (mended says (tag ∷ ancestors) way inner)) (mended says (tag ∷ ancestors) way inner) rest
mended says ancestors (suc n ∷ way) (leaf_state leaf present rest) = leaf_state leaf present (mended says ancestors (n ∷ way) rest)
mended says ancestors (suc n ∷ way) (container_state tag tally inner rest) = container_state tag tally inner (mended says ancestors (n ∷ way) rest)
