-- Where a move begins: the position of its source start, and the place of that marker in the list of markers.
use Rattle.std.specs.Prelude.{ℕ, List, Option, Some, None, slice_get}
use Rattle.redl_tree.specs.Revisions.Moves.{Marking, Pair, place_of}
use Rattle.redl_moves.specs.declared.start.Start.{Start}

abbrev pub at_of : Option Marking → ℕ
at_of (Some mark) = mark.at
at_of None = 0

-- by the place of its source start
abbrev pub start_by : List Marking → ℕ → Start
start_by marks place = record { at = at_of (slice_get marks place); place = place }

-- of a paired move of these markers
abbrev pub start_in : List Marking → Pair → Start
start_in marks pair = record { at = pair.source.start.at; place = place_of marks pair.source.start.at }
