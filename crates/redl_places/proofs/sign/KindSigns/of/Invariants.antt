use Rattle.std.proofs.Common.{◌≡◌, ◌≤◌, ℕ, List, drop}
use Rattle.redl_reading.specs.Steps.{or_else}
use Rattle.redl_places.specs.Signs.{sign_from, sign_of}
use Rattle.redl_places.specs.Views.{sign_at}
use Rattle.redl_places.proofs.sign.KindSigns.of.Given as goal

-- the signs so far, or else those that the references that are left give
abbrev pub invariant-loop-reference : goal.invariant-loop-reference
invariant-loop-reference l = record {
  few : l.count ≤ l.reference-index;
  all : (id : List ℕ) → or_else (sign_at l.signs id) (sign_from l.kind l.count (drop l.reference-index l.references) id) ≡ sign_of l.kind l.references id;
}
