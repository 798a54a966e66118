-- The tallies of containers on a way, counted anew. Whether a container is cut stays as it is.
use Rattle.std.specs.Prelude.{ℕ, zero, suc, ◌+◌, ◌-◌, ◌^◌, ◌≡◌, ◌≤◌, min, List, [], ◌∷◌, Bool, ◌&&◌, ◌||◌, if◌then◌else◌}
use Rattle.redl_tree.specs.Model.Nodes.{Tag}
use Rattle.redl_tree.specs.Roles.Names.{is}
use Rattle.redl_tree.specs.Leaves.Living.{holds_own_of_ancestor, all_gone, cut_at, goes_by_counts}
use Rattle.redl_tree.specs.Leaves.Rebuilt.{original}
use Rattle.redl_tree.specs.declared.kinds.Say.{Say}
use Rattle.redl_tree.specs.Leaves.States.{Tally, States, no_states, leaf_state, container_state, slots_of, states_owned, states_living, one_left}
use Rattle.redl_tree.specs.Revisions.Markers.{is_own}
use Rattle.redl_leaves.specs.Spots.{is_own_at, is_between_at, is_shell_at}
use Rattle.redl_leaves.specs.View.{SlotView, leaf_view, container_view}
use Rattle.redl_leaves.specs.declared.mending.Shift.{Shift}
use Rattle.redl_leaves.specs.declared.slots.Tally.{Tally as KeptTally}
use Rattle.redl_leaves.specs.declared.spot.Spot.{Spot}

-- a tally round these states
abbrev pub retally : List Tag → Tag → Tally → States → Tally
retally ancestors tag tally inner = record {
  cut = tally.cut;
  owned = tally.owned;
  living = states_living (tag ∷ ancestors) inner;
  gone = goes_by_counts ancestors tag tally.cut tally.owned (states_living (tag ∷ ancestors) inner);
}

abbrev pub retallied : List Tag → List ℕ → States → States
retallied ancestors way no_states = no_states
retallied ancestors [] states = states
retallied ancestors (zero ∷ way) (leaf_state leaf present rest) = leaf_state leaf present rest
retallied ancestors (zero ∷ way) (container_state tag tally inner rest) =
    container_state tag (retally ancestors tag tally (retallied (tag ∷ ancestors) way inner)) (retallied (tag ∷ ancestors) way inner) rest
retallied ancestors (suc n ∷ way) (leaf_state leaf present rest) = leaf_state leaf present (retallied ancestors (n ∷ way) rest)
retallied ancestors (suc n ∷ way) (container_state tag tally inner rest) = container_state tag tally inner (retallied ancestors (n ∷ way) rest)

abbrev pub retallied_in : List Tag → List ℕ → SlotView → SlotView
retallied_in ancestors way (leaf_view leaf present) = leaf_view leaf present
retallied_in ancestors way (container_view tag tally inner) =
    container_view tag (retally ancestors tag tally (retallied (tag ∷ ancestors) way inner)) (retallied (tag ∷ ancestors) way inner)

-- each container has the numbers of its own rows or cells
abbrev pub HasNumbers : List Tag → States → Type 0
HasNumbers ancestors no_states = Unit {0}
HasNumbers ancestors (leaf_state leaf present rest) = HasNumbers ancestors rest
HasNumbers ancestors (container_state tag tally inner rest) =
    (tally.owned ≡ states_owned (tag ∷ ancestors) inner)
    × (tally.living ≡ states_living (tag ∷ ancestors) inner)
    × HasNumbers (tag ∷ ancestors) inner
    × HasNumbers ancestors rest

abbrev pub HasNumbersIn : List Tag → SlotView → Type 0
HasNumbersIn ancestors (leaf_view leaf present) = Unit {0}
HasNumbersIn ancestors (container_view tag tally inner) =
    (tally.owned ≡ states_owned (tag ∷ ancestors) inner) × (tally.living ≡ states_living (tag ∷ ancestors) inner) × HasNumbers (tag ∷ ancestors) inner

-- how many a slot adds
abbrev pub share : List Tag → SlotView → ℕ
share ancestors (leaf_view leaf present) = 0
share ancestors (container_view tag tally inner) = if is_own ancestors tag then one_left tally.gone else if holds_own_of_ancestor ancestors tag then tally.living else 0

-- the same of a container, with the summary of its ancestors
abbrev pub left_at : Spot → Tag → KeptTally → ℕ
left_at spot tag tally = if is_own_at spot tag then one_left tally.gone else if is_between_at spot tag then tally.living else 0

abbrev pub shifted : KeptTally → Shift → ℕ
shifted tally shift = min ((tally.living - shift.before) + shift.after) (2 ^ 32 - 1)

abbrev pub goes_at_counts : Spot → Tag → Bool → ℕ → ℕ → Bool
goes_at_counts spot tag cut owned living =
    if is "tc" tag then cut
    else if is "tr" tag then cut || all_gone owned living
    else (is "tbl" tag || is_shell_at spot tag) && all_gone owned living

-- what mending does to a list of slots
pub record Mends (ancestors : List Tag) (way : List ℕ) (old new : States) (shift : Shift) : Type 0 where
  pub states : new ≡ retallied ancestors way old
  pub living : states_living ancestors new + shift.before ≡ states_living ancestors old + shift.after
  pub within : shift.before ≤ states_living ancestors old

-- and to one slot
pub record MendsIn (ancestors : List Tag) (way : List ℕ) (old new : SlotView) (shift : Shift) : Type 0 where
  pub slot : new ≡ retallied_in ancestors way old
  pub before : shift.before ≡ share ancestors old
  pub after : shift.after ≡ share ancestors new

-- The containers on a way are cut where these says cut them. Their numbers stay.
abbrev pub recut : List Say → List ℕ → States → States
recut says way no_states = no_states
recut says [] states = states
recut says (zero ∷ way) (leaf_state leaf present rest) = leaf_state leaf present rest
recut says (zero ∷ way) (container_state tag tally inner rest) =
    container_state tag (record tally { cut = cut_at says tag (original (slots_of (recut says way inner))) }) (recut says way inner) rest
recut says (suc n ∷ way) (leaf_state leaf present rest) = leaf_state leaf present (recut says (n ∷ way) rest)
recut says (suc n ∷ way) (container_state tag tally inner rest) = container_state tag tally inner (recut says (n ∷ way) rest)

abbrev pub recut_in : List Say → List ℕ → SlotView → SlotView
recut_in says way (leaf_view leaf present) = leaf_view leaf present
recut_in says way (container_view tag tally inner) =
    container_view tag (record tally { cut = cut_at says tag (original (slots_of (recut says way inner))) }) (recut says way inner)
