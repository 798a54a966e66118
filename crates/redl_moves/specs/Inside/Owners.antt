-- Which move the marker at a position is of, by the places of markers.
use Rattle.std.specs.Prelude.{ℕ, List, [], ◌∷◌, Bool, ◌||◌, ◌==◌, Option, Some, None, slice_get, if◌then◌else◌}
use Rattle.redl_tree.specs.Revisions.Moves.{Marking, Move}
use Rattle.redl_moves.specs.Starts.{at_of, start_by}
use Rattle.redl_moves.specs.declared.start.Start.{Start}

-- a marker of this move is at this position
abbrev pub is_at : List Marking → ℕ → Move → Bool
is_at marks at m =
    at == at_of (slice_get marks m.from_start) || at == at_of (slice_get marks m.from_end)
    || at == at_of (slice_get marks m.to_start) || at == at_of (slice_get marks m.to_end)

-- the start of the first move that is at a position: this one, if the position is hit and has none yet
abbrev pub first_owner : Bool → Start → Option Start → Option Start
first_owner hit start (Some other) = Some other
first_owner hit start None = if hit then Some start else None

-- the same after these moves, one after the other
abbrev pub owner_over : List Marking → ℕ → Option Start → List Move → Option Start
owner_over marks at had [] = had
owner_over marks at had (m ∷ ms) = owner_over marks at (first_owner (is_at marks at m) (start_by marks m.from_start) had) ms
