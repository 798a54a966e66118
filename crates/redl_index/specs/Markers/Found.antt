-- The markers of moves in a story (ECMA-376 Part 1, 17.13.5.23 to 17.13.5.28).
use Rattle.std.specs.Prelude.{ℕ, List, Option, option_map, filter_map}
use Rattle.redl_tree.specs.Model.Nodes.{Tag, Nodes}
use Rattle.redl_tree.specs.Model.Seen.{Seen, seen}
use Rattle.redl_tree.specs.Revisions.Moves.{Marking}
use Rattle.redl_tree.specs.Revisions.Markers.{marker_of}
use Rattle.redl_stamp.specs.Attribute.{attribute_value}

-- the markers of the story with this root and these kids of it, in the order of their start tags
abbrev pub markers_of : Tag → Nodes → List Marking
markers_of root kids = filter_map (marker_of attribute_value) (seen root kids)

-- the attributes of an element, where it is a marker
abbrev pub marker_tail : Seen → Option (List ℕ)
marker_tail x = option_map (λ mark. x.own.tag.tail) (marker_of attribute_value x)

-- the attributes of the markers, in the same order
abbrev pub marker_tails : Tag → Nodes → List (List ℕ)
marker_tails root kids = filter_map marker_tail (seen root kids)
