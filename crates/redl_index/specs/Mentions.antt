-- The mentions of revisions in a story: each element that is in a revision, one of its own or a paired move, mentions it
-- (ECMA-376 Part 1, 17.13.5).
use Rattle.std.specs.Prelude.{ℕ, List, [], Bool, true, not, Option, Some, None, option_map, get_or, filter_map, map}
use Rattle.redl_tree.specs.Model.Nodes.{Tag, Nodes}
use Rattle.redl_tree.specs.Model.Seen.{Seen, seen}
use Rattle.redl_tree.specs.Revisions.Moves.{Marking, pairs}
use Rattle.redl_tree.specs.Revisions.Markers.{move_of, whole_role}
use Rattle.redl_tree.specs.declared.kinds.Kind.{Kind}
use Rattle.redl_stamp.specs.Attribute.{attribute_value}
use Rattle.redl_moves.specs.Starts.{start_in}
use Rattle.redl_moves.specs.declared.start.Start.{Start}
use Rattle.redl_index.specs.Markers.Found.{markers_of, marker_tails}
use Rattle.redl_index.specs.Kinds.{kind_of, is_marker_kind}
use Rattle.redl_kinds.specs.declared.rev_kind.RevKind.{RevKind}
use Rattle.redl_kinds.specs.declared.rev_kind.RevKind.TheVariants.{Move}

-- a mention of a revision: what the revision is; of a move, where its source starts; whether the element is a member of it,
-- and not a marker; and the attributes that say who made the revision and when
pub record Mention : Type 0 where
  pub kind : RevKind
  pub move : Option ℕ
  pub counts : Bool
  pub tail : List ℕ

-- The mention of the move that starts there, by a member or by a marker. The attributes are those of the source's start, which
-- is one of the story's markers, and these are the attributes of the markers.
abbrev pub move_mention : List (List ℕ) → Start → Bool → Mention
move_mention tails start counts = record {
  kind = Move;
  move = Some start.at;
  counts = counts;
  tail = get_or tails start.place [];
}

-- the mention by an element of this kind: of a revision of its own with its own attributes, or of the move that starts there
abbrev pub mention_as : List (List ℕ) → List ℕ → Kind → RevKind → Option Start → Mention
mention_as tails tail kind named None = record { kind = named; move = None; counts = true; tail = tail }
mention_as tails tail kind named (Some start) = move_mention tails start (not (is_marker_kind kind))

-- the mention by an element with these attributes and this kind, in the move that starts there or in none
abbrev pub mention_by : List (List ℕ) → List ℕ → Kind → Option Start → Option Mention
mention_by tails tail kind start = option_map (λ named. mention_as tails tail kind named start) (kind_of kind)

-- what an element is in the revisions of its story: its kind, and the mention that it makes
pub record Sight : Type 0 where
  pub kind : Kind
  pub mention : Option Mention

abbrev pub sight_by : List (List ℕ) → List ℕ → Kind → Option Start → Sight
sight_by tails tail kind start = record { kind = kind; mention = mention_by tails tail kind start }

-- an element of a story with these markers, whose attributes these are
abbrev pub sight_in : List Marking → List (List ℕ) → Seen → Sight
sight_in marks tails seen =
    sight_by tails seen.own.tag.tail (whole_role attribute_value (pairs marks) seen)
    (option_map (start_in marks) (move_of attribute_value (pairs marks) seen))

-- the mentions in the story with this root, in the order of the start tags
abbrev pub mentions : Tag → Nodes → List Mention
mentions root kids =
    filter_map (λ sight. sight.mention) (map (sight_in (markers_of root kids) (marker_tails root kids)) (seen root kids))
