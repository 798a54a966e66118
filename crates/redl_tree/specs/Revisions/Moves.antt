-- Paired moves: which markers of a story belong together (ECMA-376 Part 1, 17.13.5.21 to 17.13.5.28; that moves are paired so
-- is our own rule). These definitions look at markers and positions only.
use Rattle.std.specs.Prelude.{ℕ, ◌+◌, List, [], ◌∷◌, Bool, true, false, ◌&&◌, ◌||◌, not, Option, Some, None, option_and_then, nat_lt, ◌==◌, bytes_eq, filter, filter_map, map, if◌then◌else◌}

-- the four kinds of markers: start and end of the range that content was moved from (the source), and of the range that it
-- was moved to (the target)
pub data Edge : Type 0 where
  from_start : Edge
  from_end : Edge
  to_start : Edge
  to_end : Edge

-- two markers are of one kind
abbrev pub same_edge : Edge → Edge → Bool
same_edge from_start from_start = true
same_edge from_end from_end = true
same_edge to_start to_start = true
same_edge to_end to_end = true
same_edge _ _ = false

-- a marker: its kind, its id, its name if it has one, its position, and whether it is loose, which is where it may go without
-- its move
pub record Marking : Type 0 where
  pub edge : Edge
  pub id : List ℕ
  pub name : Option (List ℕ)
  pub at : ℕ
  pub loose : Bool

-- a marker's name is this one
abbrev pub has_name : List ℕ → Option (List ℕ) → Bool
has_name name None = false
has_name name (Some other) = bytes_eq other name

-- the markers of this kind with this name
abbrev pub with_name : Edge → List ℕ → List Marking → List Marking
with_name edge name marks = filter (λ m. same_edge m.edge edge && has_name name m.name) marks

-- the markers of this kind with this id
abbrev pub with_id : Edge → List ℕ → List Marking → List Marking
with_id edge id marks = filter (λ m. same_edge m.edge edge && bytes_eq m.id id) marks

-- the only item of a list that has one item
abbrev pub only_one : {X : Type 0} → List X → Option X
only_one (x ∷ []) = Some x
only_one _ = None

-- the range of a move: its start and its end
pub record Range : Type 0 where
  pub start : Marking
  pub end : Marking

-- a start and an end make a range where the end comes after the start and neither is loose
abbrev pub range_from : Option Marking → Option Marking → Option Range
range_from (Some start) (Some end) =
    if nat_lt start.at end.at && not start.loose && not end.loose
    then Some (record { start = start; end = end }) else None
range_from _ _ = None

-- the range with this id: exactly one start and one end of these kinds have the id
abbrev pub range_with_id : Edge → Edge → List Marking → List ℕ → Option Range
range_with_id start_edge end_edge marks id =
    range_from (only_one (with_id start_edge id marks)) (only_one (with_id end_edge id marks))

-- the range with this name: exactly one start of this kind has the name, and its id has a range
abbrev pub range_with_name : Edge → Edge → List Marking → List ℕ → Option Range
range_with_name start_edge end_edge marks name =
    option_and_then (λ start. range_with_id start_edge end_edge marks start.id)
    (only_one (with_name start_edge name marks))

-- a paired move: the range that content was moved from, and the one that it was moved to
pub record Pair : Type 0 where
  pub source : Range
  pub target : Range

-- a source and a target make a move
abbrev pub pair_from : Option Range → Option Range → Option Pair
pair_from (Some source) (Some target) = Some (record { source = source; target = target })
pair_from _ _ = None

-- the move with this name, where it has a source and a target
abbrev pub pair_with_name : List Marking → List ℕ → Option Pair
pair_with_name marks name =
    pair_from (range_with_name from_start from_end marks name) (range_with_name to_start to_end marks name)

-- the move with the name of this marker, where the marker is the start of a source
abbrev pub pair_of : List Marking → Marking → Option Pair
pair_of marks mark = if same_edge mark.edge from_start then option_and_then (pair_with_name marks) mark.name else None

-- the paired moves of a story with these markers, in the order of the starts of their sources
abbrev pub pairs : List Marking → List Pair
pairs marks = filter_map (pair_of marks) marks

-- a range is open at the positions after its start and before its end
abbrev pub is_open_at : ℕ → Range → Bool
is_open_at at range = nat_lt range.start.at at && nat_lt at range.end.at

-- of two moves, the one whose range starts later
abbrev pub later : (Pair → Range) → Pair → Option Pair → Option Pair
later side pair None = Some pair
later side pair (Some other) = if nat_lt (side other).start.at (side pair).start.at then Some pair else Some other

-- the one of these moves whose range starts last
abbrev pub latest : (Pair → Range) → List Pair → Option Pair
latest side [] = None
latest side (pair ∷ others) = later side pair (latest side others)

-- the move to which a member at this position belongs: of those whose range is open there, the one that starts last
abbrev pub pair_at : (Pair → Range) → ℕ → List Pair → Option Pair
pair_at side at moves = latest side (filter (λ pair. is_open_at at (side pair)) moves)

-- a marker of this move has this position
abbrev pub is_of_pair : ℕ → Pair → Bool
is_of_pair at pair =
    at == pair.source.start.at || at == pair.source.end.at || at == pair.target.start.at || at == pair.target.end.at

-- a move by the places of its four markers in a list of markers, counted from 0
pub record Move : Type 0 where
  pub from_start : ℕ
  pub from_end : ℕ
  pub to_start : ℕ
  pub to_end : ℕ

-- the place of the marker with this position
abbrev pub place_of : List Marking → ℕ → ℕ
place_of [] at = 0
place_of (mark ∷ marks) at = if mark.at == at then 0 else 1 + place_of marks at

-- a move by the places of its markers in this list
abbrev pub by_places : List Marking → Pair → Move
by_places marks pair = record {
  from_start = place_of marks pair.source.start.at;
  from_end = place_of marks pair.source.end.at;
  to_start = place_of marks pair.target.start.at;
  to_end = place_of marks pair.target.end.at;
}

-- the paired moves among these markers, by their places
abbrev pub paired_moves : List Marking → List Move
paired_moves marks = map (by_places marks) (pairs marks)
