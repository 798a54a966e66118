-- What an element of a story is, by what is handed down to it, and how a walk goes on behind its start tag.
use Rattle.std.specs.Prelude.{ℕ, List, drop, find, get_or, is_some, option_map, Option, None, if◌then◌else◌, [], ◌∷◌, Bool, ◌&&◌, not, codes}
use Rattle.redl_tree.specs.Model.Nodes.{Tag}
use Rattle.redl_tree.specs.Roles.Names.{is}
use Rattle.redl_tree.specs.Roles.Arounds.{role_in}
use Rattle.redl_tree.specs.Revisions.Moves.{Marking, pairs, is_of_pair, Pair}
use Rattle.redl_tree.specs.declared.around.Around.{Around}
use Rattle.redl_tree.specs.declared.kinds.Kind.{Kind}
use Rattle.redl_tree.specs.declared.kinds.Kind.TheVariants.{Marker, Content, Mark}
use Rattle.redl_moves.specs.Starts.{start_in}
use Rattle.redl_moves.specs.declared.start.Start.{Start}
use Rattle.redl_index.specs.declared.story.Sight.{Sight}
use Rattle.redl_tree.specs.Model.Seen.{Spot}
use Rattle.redl_tree.specs.Revisions.Markers.{move_at}
use Rattle.redl_tree.specs.Roles.Places.{is_range_edge}
use Rattle.redl_stamp.specs.Attribute.{attribute_value}
use Rattle.redl_moves.specs.Standing.{IsApart}

-- the end of the nearest paragraph
abbrev pub para_end : List Spot → ℕ
para_end [] = 0
para_end (spot ∷ ancestors) = if is "p" spot.tag then spot.end else para_end ancestors

-- the move of an element with this role, by where its own start tag and the end tag of its paragraph are: a mark is at the
-- end of its paragraph
abbrev pub move_by : List Pair → Kind → ℕ → ℕ → Option Pair
move_by moves (Content trace) start end = move_at moves trace start
move_by moves (Mark trace) start end = move_at moves trace end
move_by moves _ start end = None

-- no marker is where an element with this role is
abbrev pub IsApartAs : List Marking → Kind → ℕ → ℕ → Type 0
IsApartAs marks (Content trace) start end = IsApart start marks
IsApartAs marks (Mark trace) start end = IsApart end marks
IsApartAs marks _ start end = Unit {0}

-- a marker of a move: an open edge of a range, with an `id`
abbrev pub is_marker_by : Around → Tag → Bool
is_marker_by around tag = not around.quiet && is_range_edge tag && is_some (attribute_value tag.tail (codes "id"))

-- where the move starts of which an element is a marker, whose start tag has this position
abbrev pub marker_start : List Marking → Around → ℕ → Tag → Option Start
marker_start marks around at tag = option_map (start_in marks) (if is_marker_by around tag then find (is_of_pair at) (pairs marks) else None)

-- where the move starts of which an element with this role is a member, whose nearest paragraph ends there
abbrev pub member_start : List Marking → Kind → ℕ → ℕ → Option Start
member_start marks role at end = option_map (start_in marks) (move_by (pairs marks) role at end)

-- what an element is: a marker of a move, or what its role makes of it
abbrev pub sight_at : List Marking → Around → ℕ → ℕ → Tag → Sight
sight_at marks around end at tag =
    if is_some (marker_start marks around at tag) then record { kind = Marker; start = marker_start marks around at tag }
    else record { kind = role_in around tag; start = member_start marks (role_in around tag) at end }

-- where the nearest paragraph ends for the kids of an element: `ends` are those of the paragraphs that start from the element on,
-- and `other` is that for the element itself
abbrev pub next_end : Tag → List ℕ → ℕ → ℕ
next_end tag ends other = if is "p" tag then get_or ends 0 0 else other

-- the ends behind the start tag of an element
abbrev pub ends_after : Tag → List ℕ → List ℕ
ends_after tag ends = if is "p" tag then drop 1 ends else ends
