-- Markers as the definitions of moves see them.
use Rattle.std.specs.Prelude.{ℕ, ◌+◌, ◌≤◌, List, [], ◌∷◌, map}
use Rattle.redl_tree.specs.Revisions.Moves.{from_start, from_end, to_start, to_end, Marking}
use Rattle.redl_tree.specs.Revisions.Moves as moves
use Rattle.redl_moves.specs.declared.marker.Marker.{Marker}
use Rattle.redl_moves.specs.declared.marker.Edge.{Edge}
use Rattle.redl_moves.specs.declared.marker.Edge.TheVariants.{FromStart, FromEnd, ToStart, ToEnd}
use Rattle.redl_moves.specs.declared.marker.Move.{Move}

-- an edge as the definitions see it
abbrev pub edge_of : Edge → moves.Edge
edge_of FromStart = from_start
edge_of FromEnd = from_end
edge_of ToStart = to_start
edge_of ToEnd = to_end

-- a marker, as the definitions see it
abbrev pub marking_of : Marker → Marking
marking_of mark = record { edge = edge_of mark.edge; id = mark.id; name = mark.name; at = mark.at; loose = mark.loose }

-- markers, as the definitions see them
abbrev pub markings : List Marker → List Marking
markings marks = map marking_of marks

-- a move as the definitions see it
abbrev pub move_of : Move → moves.Move
move_of m = record { from_start = m.from_start; from_end = m.from_end; to_start = m.to_start; to_end = m.to_end }

-- the positions of markers rise along the list, from this one on
abbrev pub RisesFrom : ℕ → List Marking → Type 0
RisesFrom at [] = Unit {0}
RisesFrom at (mark ∷ marks) = (at ≤ mark.at) × RisesFrom (mark.at + 1) marks
