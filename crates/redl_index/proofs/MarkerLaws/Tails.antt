-- The attributes of the markers of a story are UTF-8.
use Rattle.std.proofs.Common.{ℕ, ◌+◌, List, [], ◌∷◌, Option, Some, None, option_map, filter_map, All}
use Rattle.std.specs.List.{cons_option}
use Rattle.std.proofs.lemmas.List.Elements.{All-nil, All-cons}
use Rattle.std.specs.Str.{IsUtf8}
use Rattle.redl_tree.specs.Model.Nodes.{Tag, Nodes, no_nodes, bytes, element}
use Rattle.redl_tree.specs.Model.Seen.{Spot, spot, Seen, seen_from, seen, root_spots, tags}
use Rattle.redl_tree.specs.Revisions.Moves.{Marking}
use Rattle.redl_tree.specs.Revisions.Markers.{marker_of}
use Rattle.redl_stamp.specs.Attribute.{attribute_value}
use Rattle.redl_tree.specs.Model.Tree.{HasUtf8Tails}
use Rattle.redl_index.specs.Markers.Found.{marker_tail, marker_tails}
use Rattle.redl_index.specs.Inside.Markers.Free.{Every}
use Rattle.redl_index.proofs.EveryLaws.{every-append}

abbrev pub HasUtf8Tail : Seen → Type 0
HasUtf8Tail x = IsUtf8 x.own.tag.tail

pub utf8-seen : (ancestors : List Spot) (at : ℕ) (nodes : Nodes) → HasUtf8Tails nodes → Every HasUtf8Tail (seen_from ancestors at nodes)
utf8-seen ancestors at no_nodes h = tt
utf8-seen ancestors at (bytes b rest) h = utf8-seen ancestors at rest h
utf8-seen ancestors at (element tag kids rest) h = (
  h.0,
  every-append HasUtf8Tail (seen_from (spot at tag kids ∷ ancestors) (at + 1) kids) (seen_from ancestors (at + 2 + tags kids) rest)
      (utf8-seen (spot at tag kids ∷ ancestors) (at + 1) kids h.1) (utf8-seen ancestors (at + 2 + tags kids) rest h.2),
)

found-tails : (xs : List Seen) → Every HasUtf8Tail xs → All IsUtf8 (filter_map marker_tail xs)
found-tails [] all = All-nil IsUtf8
found-tails (x ∷ xs) all = by (marker_of attribute_value x) (found-tails xs all.1)
  where
    by : (o : Option Marking) → All IsUtf8 (filter_map marker_tail xs) → All IsUtf8 (cons_option (option_map (λ mark. x.own.tag.tail) o) (filter_map marker_tail xs))
    by None more = more
    by (Some mark) more = All-cons IsUtf8 x.own.tag.tail (filter_map marker_tail xs) all.0 more

-- the attributes of the markers are UTF-8, where those of all elements are
pub utf8-tails : (root : Tag) (kids : Nodes) → HasUtf8Tails kids → All IsUtf8 (marker_tails root kids)
utf8-tails root kids h = found-tails (seen root kids) (utf8-seen (root_spots root kids) 1 kids h)
