-- An index of places by keys, as the code keeps it.
use Rattle.std.specs.Prelude.{ℕ, List, [], ◌∷◌, bytes_eq, Option, Some, None, if◌then◌else◌}
use Rattle.indexmap.specs.IndexMap.{get_by}
use Rattle.redl_moves.specs.declared.marker_index.MarkerIndex.{MarkerIndex}

-- what an index has for a key: nothing yet, one place, or several
abbrev pub at_key : MarkerIndex → List ℕ → Option (Option ℕ)
at_key index key = get_by (λ k. bytes_eq key k.now) index.places

abbrev pub one_place : Option (Option ℕ) → Option ℕ
one_place None = None
one_place (Some place) = place

-- one more place
abbrev pub noted : ℕ → Option (Option ℕ) → Option (Option ℕ)
noted place None = Some (Some place)
noted place (Some _) = Some None

-- one more place at a key, as another key sees it
abbrev pub noted_key : List ℕ → List ℕ → ℕ → Option (Option ℕ) → Option (Option ℕ)
noted_key key other place had = if bytes_eq key other then noted place had else had

-- these places, one after the other
abbrev pub noted_all : Option (Option ℕ) → List ℕ → Option (Option ℕ)
noted_all had [] = had
noted_all had (place ∷ places) = noted_all (noted place had) places
