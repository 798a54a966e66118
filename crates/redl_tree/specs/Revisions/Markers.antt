-- The markers of moves in a story, and the move of each element (ECMA-376 Part 1, 17.13.5.21 to 17.13.5.28; which markers are
-- loose is our own rule). `value` gives the value of an attribute, by a tag's tail and a local name: attributes are read by a
-- crate above.
use Rattle.std.specs.Prelude.{ℕ, List, [], ◌∷◌, ◌&&◌, ◌||◌, not, Bool, true, false, Option, Some, None, is_some, option_map, option_and_then, filter_map, find, codes, if◌then◌else◌}
use Rattle.std.specs.List.{list_any}
use Rattle.redl_tree.specs.Model.Nodes.{Tag, Nodes}
use Rattle.redl_tree.specs.Roles.Names.{is}
use Rattle.redl_tree.specs.Model.Kids.{some_element, kids_of_all}
use Rattle.redl_tree.specs.Roles.Places.{is_open, role, row_trace_of, cell_trace_of, trace_of}
use Rattle.redl_tree.specs.Roles.Lists.{into, place, in_rows, in_cells, is_blocks}
use Rattle.redl_tree.specs.Model.Seen.{Spot, Seen, tags_of}
use Rattle.redl_tree.specs.Rules.Sound.{is_marker}
use Rattle.redl_tree.specs.Revisions.Moves.{Edge, from_start, from_end, to_start, to_end, Marking, Pair, pairs, pair_at, is_of_pair}
use Rattle.redl_tree.specs.declared.lists.Place.{Place}
use Rattle.redl_tree.specs.declared.lists.Reach.{Reach}
use Rattle.redl_tree.specs.declared.lists.Reach.TheVariants.{Beyond}
use Rattle.redl_tree.specs.declared.kinds.Trace.{Trace}
use Rattle.redl_tree.specs.declared.kinds.Trace.TheVariants.{From, To}
use Rattle.redl_tree.specs.declared.kinds.Kind.{Kind}
use Rattle.redl_tree.specs.declared.kinds.Kind.TheVariants.{Content, Mark, Marker}

-- the value of an attribute of a tail, by its local name
abbrev pub Value : Type 0
Value = List ℕ → List ℕ → Option (List ℕ)

-- which edge of a range an element is, by its name
abbrev pub edge_of : Tag → Option Edge
edge_of tag =
    if is "moveFromRangeStart" tag then Some from_start
    else if is "moveFromRangeEnd" tag then Some from_end
    else if is "moveToRangeStart" tag then Some to_start
    else if is "moveToRangeEnd" tag then Some to_end
    else None

-- a row with these kids is inserted or deleted
abbrev pub is_row_revision : Nodes → Bool
is_row_revision kids = some_element (λ tag. is_some (row_trace_of tag)) (kids_of_all "trPr" kids)

-- a cell with these kids is inserted or deleted
abbrev pub is_cell_revision : Nodes → Bool
is_cell_revision kids = some_element (λ tag. is_some (cell_trace_of tag)) (kids_of_all "tcPr" kids)

-- an open element that may go with all that it holds: a content revision, or an inserted or deleted row or cell
abbrev pub is_revised : Spot → Bool
is_revised spot =
    is_some (trace_of spot.tag)
    || (is "tr" spot.tag && is_row_revision spot.kids)
    || (is "tc" spot.tag && is_cell_revision spot.kids)

-- a list of kids is reached, as such or as the kids of a content control
abbrev pub is_reached : Reach → Bool
is_reached Beyond = false
is_reached _ = true

-- a place among the rows of a table or the cells of a row, or in a shell of these
abbrev pub is_in_grid : Place → Bool
is_in_grid here = not (is_blocks here.lot) && is_reached here.reach

-- an element with these ancestors is an own row of its table, or an own cell of its row
abbrev pub is_own : List Tag → Tag → Bool
is_own ancestors tag = (in_rows ancestors && is "tr" tag) || (in_cells ancestors && is "tc" tag)

-- An element in a table or row that is no own row or cell and no part of a shell. What it holds is in no own row of that
-- table, or in no own cell of that row.
abbrev pub leaves_grid : List Tag → Tag → Bool
leaves_grid ancestors tag =
    is_in_grid (place ancestors) && not (is_own ancestors tag) && not (is_reached (into (place ancestors).reach tag))

-- one of these ancestors is such an element
abbrev pub any_leaves_grid : List Tag → Bool
any_leaves_grid [] = false
any_leaves_grid (tag ∷ ancestors) = leaves_grid ancestors tag || any_leaves_grid ancestors

-- an element with these ancestors is in a table but in none of its own rows, or in a row but in none of its own cells
abbrev pub is_astray : List Tag → Bool
is_astray ancestors = is_in_grid (place ancestors) || any_leaves_grid ancestors

-- a marker is loose where it may go by itself: below a content revision or an inserted or deleted row or cell, or in a table
-- or row outside the own rows and cells
abbrev pub is_loose : List Spot → Bool
is_loose ancestors = list_any is_revised ancestors || is_astray (tags_of ancestors)

-- an element as a marker of this kind with this id
abbrev pub marking : Value → Seen → Edge → List ℕ → Marking
marking value seen edge id = record {
  edge = edge;
  id = id;
  name = value seen.own.tag.tail (codes "name");
  at = seen.own.start;
  loose = is_loose seen.ancestors;
}

-- the marker that an element is: an open edge of a range with an `id`
abbrev pub marker_of : Value → Seen → Option Marking
marker_of value seen =
    if is_open (tags_of seen.ancestors)
    then option_and_then (λ edge. option_map (marking value seen edge) (value seen.own.tag.tail (codes "id"))) (edge_of seen.own.tag)
    else None

-- the paired moves among these elements of a story
abbrev pub moves_among : Value → List Seen → List Pair
moves_among value story = pairs (filter_map (marker_of value) story)

-- the role of an element, without looking at moves
abbrev pub own_role : Seen → Kind
own_role seen = role (tags_of seen.ancestors) seen.own.tag

-- the position of a member of a paragraph's mark: the end tag of its paragraph, since the mark is the end of the paragraph
abbrev pub mark_end : ℕ → List Spot → ℕ
mark_end start (run_props ∷ para_props ∷ para ∷ ancestors) = para.end
mark_end start _ = start

-- the move of content that was moved from or to this position
abbrev pub move_at : List Pair → Trace → ℕ → Option Pair
move_at moves From at = pair_at (λ pair. pair.source) at moves
move_at moves To at = pair_at (λ pair. pair.target) at moves
move_at moves _ at = None

-- the move that a member with this role belongs to; run content has the position of its start tag
abbrev pub move_of_member : List Pair → Kind → Seen → Option Pair
move_of_member moves (Content trace) seen = move_at moves trace seen.own.start
move_of_member moves (Mark trace) seen = move_at moves trace (mark_end seen.own.start seen.ancestors)
move_of_member moves _ seen = None

-- the move that an element is a marker of
abbrev pub move_of_marker : Value → List Pair → Seen → Option Pair
move_of_marker value moves seen =
    find (λ pair. is_marker (λ tail. is_some (value tail (codes "id"))) (tags_of seen.ancestors) seen.own.tag && is_of_pair seen.own.start pair) moves

-- the first of two moves, if it is there, else the second
abbrev pub either : Option Pair → Option Pair → Option Pair
either None other = other
either (Some pair) other = Some pair

-- the move of an element, as a marker or as a member
abbrev pub move_of : Value → List Pair → Seen → Option Pair
move_of value moves seen = either (move_of_marker value moves seen) (move_of_member moves (own_role seen) seen)

-- the role of an element, where a marker of a paired move has the role of a marker
abbrev pub whole_role : Value → List Pair → Seen → Kind
whole_role value moves seen = if is_some (move_of_marker value moves seen) then Marker else own_role seen
