-- The leaves of a list of properties that are kept: as many as have room, so that time and memory stay bounded (our own rule). A leaf takes
-- room for itself and for each of its attributes, and there is room for 500 of these.
use Rattle.std.specs.Prelude.{ℕ, ◌+◌, nat_le, Bool, true, false, List, [], ◌∷◌, ◌++◌, length, Option, None, Some, if◌then◌else◌}
use Rattle.redl_properties.specs.declared.attribute.Leaf.{Leaf}

-- the leaves that are kept, how much room they take, and whether a leaf wasn't kept
pub record KeptLeaves : Type 0 where
  pub leaves : List Leaf
  pub size : ℕ
  pub is_cut : Bool

abbrev pub nothing_kept : KeptLeaves
nothing_kept = record { leaves = []; size = 0; is_cut = false }

abbrev pub cut : KeptLeaves → KeptLeaves
cut kept = record { leaves = kept.leaves; size = kept.size; is_cut = true }

-- how much room they take with one leaf more
abbrev pub size_with : ℕ → Leaf → ℕ
size_with size leaf = size + (1 + length leaf.attributes)

-- with one leaf more, where it has room, and is no leaf that is too large
abbrev pub with_leaf : KeptLeaves → Option Leaf → KeptLeaves
with_leaf kept None = cut kept
with_leaf kept (Some leaf) =
    if nat_le (size_with kept.size leaf) 500
    then record { leaves = kept.leaves ++ leaf ∷ []; size = size_with kept.size leaf; is_cut = kept.is_cut }
    else cut kept

abbrev pub kept_after : KeptLeaves → List (Option Leaf) → KeptLeaves
kept_after kept [] = kept
kept_after kept (leaf ∷ more) = kept_after (with_leaf kept leaf) more
