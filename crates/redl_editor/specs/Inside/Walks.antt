-- The ways to the leaves of slots, a slot at a time.
use Rattle.std.specs.Prelude.{ℕ, ◌≡◌, List, [], ◌∷◌, ◌++◌, map}
use Rattle.redl_tree.specs.Leaves.States.{slots_of}
use Rattle.redl_tree.specs.Leaves.Ways.{ways_from}
use Rattle.redl_editor.specs.Places.{HasWays}
use Rattle.redl_leaves.specs.View.{SlotView, leaf_view, container_view}
use Rattle.redl_editor.specs.declared.places.Places.{Places as Kept}

-- below one slot, where the way to it is left out
abbrev pub ways_in : SlotView → List (List ℕ)
ways_in (leaf_view leaf present) = [] ∷ []
ways_in (container_view tag tally inner) = ways_from 0 (slots_of inner)

-- ways with this in front
abbrev pub fronted : List ℕ → List (List ℕ) → List (List ℕ)
fronted front ways = map (λ way. front ++ way) ways

-- these ways were added, behind a front that is as before
pub record AddsWays (more : List (List ℕ)) (front left : List ℕ) (old new : Kept) : Type 0 where
  pub same : left ≡ front
  pub ways : (ways : List (List ℕ)) → HasWays old ways → HasWays new (ways ++ fronted front more)
