use Rattle.std.proofs.Common.{◌≡◌, ℕ, List, drop}
use Rattle.std.specs.List.{position_from}
use Rattle.redl_reading.specs.Steps.{or_else}
use Rattle.redl_hidden.specs.Styles.{has_id, place_of}
use Rattle.redl_hidden.specs.Inside.Known.{place_in}
use Rattle.redl_hidden.proofs.places.Places.of.Given as goal

-- each id has the place that it has so far, or else that among the styles that are left
abbrev pub invariant-loop-place : goal.invariant-loop-place
invariant-loop-place l = (id : List ℕ) → or_else (place_in l.places id) (position_from (has_id id) l.place (drop l.place l.styles)) ≡ place_of l.styles id
