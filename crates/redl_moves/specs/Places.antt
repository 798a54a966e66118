-- Paired moves by the places of markers in their list: the definitions of `redl_tree/specs/Revisions/Moves.antt`, with a place for each
-- marker that they speak of.
use Rattle.std.specs.Prelude.{ℕ, ◌+◌, List, [], ◌∷◌, Bool, ◌&&◌, not, Option, Some, None, option_and_then, nat_lt, slice_get, filter_map, if◌then◌else◌}
use Rattle.redl_tree.specs.Revisions.Moves.{Edge, from_start, from_end, to_start, to_end, Marking, Move, only_one, same_edge}
use Rattle.redl_moves.specs.Keys.{has_key}
use Rattle.redl_moves.specs.declared.marker_index.Key.TheVariants.{Id, Name}
use Rattle.redl_moves.specs.declared.range_index.Span.{Span}

-- the places of the markers that pass, where the first marker has this place
abbrev pub places_from : ℕ → (Marking → Bool) → List Marking → List ℕ
places_from place test [] = []
places_from place test (mark ∷ marks) =
    if test mark then place ∷ places_from (place + 1) test marks else places_from (place + 1) test marks

-- the place of the only marker that passes
abbrev pub only_place : (Marking → Bool) → List Marking → Option ℕ
only_place test marks = only_one (places_from 0 test marks)

-- these two as a range: the end comes after the start, and neither is loose
abbrev pub are_range : Marking → Marking → Bool
are_range start end = nat_lt start.at end.at && not start.loose && not end.loose

abbrev pub span_between : ℕ → ℕ → Option Marking → Option Marking → Option Span
span_between i j (Some start) (Some end) = if are_range start end then Some (record { start = i; end = j }) else None
span_between i j _ _ = None

abbrev pub span_from : List Marking → Option ℕ → Option ℕ → Option Span
span_from marks (Some i) (Some j) = span_between i j (slice_get marks i) (slice_get marks j)
span_from marks _ _ = None

-- the range with this id, and the range with this name
abbrev pub span_with_id : Edge → Edge → List Marking → List ℕ → Option Span
span_with_id start_edge end_edge marks id =
    span_from marks (only_place (has_key Id start_edge id) marks) (only_place (has_key Id end_edge id) marks)

abbrev pub span_with_name : Edge → Edge → List Marking → List ℕ → Option Span
span_with_name start_edge end_edge marks name =
    option_and_then (λ mark. span_with_id start_edge end_edge marks mark.id)
    (option_and_then (slice_get marks) (only_place (has_key Name start_edge name) marks))

abbrev pub move_from : Option Span → Option Span → Option Move
move_from (Some source) (Some target) =
    Some (record { from_start = source.start; from_end = source.end; to_start = target.start; to_end = target.end })
move_from _ _ = None

-- the move of a name
abbrev pub move_with_name : List Marking → List ℕ → Option Move
move_with_name marks name =
    move_from (span_with_name from_start from_end marks name) (span_with_name to_start to_end marks name)

-- the move of a marker's name, where the marker is a start of this kind
abbrev pub move_begun : Edge → List Marking → Marking → Option Move
move_begun edge marks mark = if same_edge mark.edge edge then option_and_then (move_with_name marks) mark.name else None

abbrev pub moves_by_place : List Marking → List Move
moves_by_place marks = filter_map (move_begun from_start marks) marks
