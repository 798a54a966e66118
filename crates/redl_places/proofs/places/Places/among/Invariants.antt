use Rattle.std.proofs.Common.{◌≡◌, ◌-◌, ℕ, drop, length}
use Rattle.redl_places.specs.Places.{place_among}
use Rattle.redl_places.specs.Views.{place_at}
use Rattle.redl_places.proofs.places.Places.among.Given as goal

-- the places of the last members
abbrev pub invariant-loop-after : goal.invariant-loop-after
invariant-loop-after l = (v : ℕ) → place_at l.places v ≡ place_among v (drop (length l.members - l.after) l.members)
