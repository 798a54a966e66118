use Rattle.std.proofs.Common.{◌≡◌, List, ℕ, drop, None}
use Rattle.redl_moves.specs.Marks.{markings, edge_of}
use Rattle.redl_moves.specs.Keys.{has_key}
use Rattle.redl_moves.specs.Places.{places_from}
use Rattle.redl_moves.specs.Inside.MarkerIndexes.{at_key, noted_all}
use Rattle.redl_moves.proofs.marker_index.MarkerIndex.of.Given as goal

-- the index has what is noted of the markers so far
abbrev pub invariant-loop-place : goal.invariant-loop-place
invariant-loop-place l =
    (key : List ℕ) → noted_all (at_key l.index key) (places_from l.place (has_key l.by (edge_of l.edge) key) (markings (drop l.place l.marks)))
    ≡ noted_all None (places_from 0 (has_key l.by (edge_of l.edge) key) (markings l.marks))
