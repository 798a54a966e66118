-- How a visit of a story finds markers and ends, element by element.
use Rattle.std.specs.Prelude.{ℕ, ◌+◌, ◌^◌, ◌<◌, List, [], ◌++◌, not, codes, set, length, map, Option, None, option_map, option_and_then, option_to_list, if◌then◌else◌}
use Rattle.redl_tree.specs.Model.Nodes.{Tag, Nodes}
use Rattle.redl_tree.specs.Model.Seen.{tags}
use Rattle.redl_tree.specs.Roles.Names.{is}
use Rattle.redl_tree.specs.Revisions.Moves.{Edge, Marking}
use Rattle.redl_tree.specs.Revisions.Markers.{edge_of}
use Rattle.redl_visit.specs.declared.ancestors.Ancestors.{Ancestors}
use Rattle.redl_visit.specs.Visits.{VisitRule, VisitNeeds}
use Rattle.redl_index.specs.declared.markers.trail.Trail.{Trail}
use Rattle.redl_index.specs.declared.markers.trail.Below.{Below}
use Rattle.redl_index.specs.declared.markers.finder.Finder.{Finder}
use Rattle.redl_index.specs.Inside.Markers.Trails.{trail_below, is_loose_at}
use Rattle.redl_index.specs.Markers.Ends.{one_end, ends_from}
use Rattle.redl_index.specs.Markers.Found.{markers_of, marker_tails}
use Rattle.redl_moves.specs.Marks.{markings}
use Rattle.redl_stamp.specs.Attribute.{attribute_value}

-- the marker that an element here is, whose start tag has this position
abbrev pub marking_by : Ancestors → Trail → ℕ → Tag → Edge → List ℕ → Marking
marking_by here trail at tag edge id = record {
  edge = edge;
  id = id;
  name = attribute_value tag.tail (codes "name");
  at = at;
  loose = is_loose_at here trail;
}

abbrev pub marker_by : Ancestors → Trail → ℕ → Tag → Option Marking
marker_by here trail at tag =
    if not here.around.quiet
    then option_and_then (λ edge. option_map (marking_by here trail at tag edge) (attribute_value tag.tail (codes "id"))) (edge_of tag)
    else None

-- the attributes of an element, where it is a marker
abbrev pub tail_by : Ancestors → Trail → ℕ → Tag → Option (List ℕ)
tail_by here trail at tag = option_map (λ mark. tag.tail) (marker_by here trail at tag)

-- what is found so far, and the position of the next tag
pub record Finding : Type 0 where
  pub marks : List Marking
  pub tails : List (List ℕ)
  pub ends : List ℕ
  pub at : ℕ

-- what a finder has found
abbrev pub finding_of : Finder → Finding
finding_of finder = record {
  marks = markings finder.found.marks.items;
  tails = map (λ tail. tail.now) finder.found.tails.items;
  ends = finder.found.ends.items;
  at = finder.at;
}

-- nothing, where the next tag is the one after the root's start tag
abbrev pub nothing_found : Finding
nothing_found = record { marks = []; tails = []; ends = []; at = 1 }

-- all that there is in the story with this root and these kids of it
abbrev pub all_found : Tag → Nodes → Finding
all_found root kids = record {
  marks = markers_of root kids;
  tails = marker_tails root kids;
  ends = ends_from 1 kids;
  at = 1 + tags kids;
}

-- the end of a paragraph is noted at its start, and again at its end
abbrev pub finder_rule : VisitRule Ancestors Below Finding
finder_rule = record {
  below = λ here own tag kids s. record { trail = trail_below tag kids here own.trail; place = length s.ends };
  enter = λ here own tag kids s. record {
    marks = s.marks ++ option_to_list (marker_by here own.trail s.at tag);
    tails = s.tails ++ option_to_list (tail_by here own.trail s.at tag);
    ends = s.ends ++ one_end tag s.at;
    at = s.at + 1;
  };
  leave = λ here below tag kids s. record s {
    ends = if is "p" tag then set s.ends below.place s.at else s.ends;
    at = s.at + 1;
  };
}

-- positions fit a number of 64 bits
abbrev pub finder_needs : VisitNeeds Ancestors Below Finding
finder_needs = record {
  Enter = λ here own tag kids s. s.at + 1 < 2 ^ 64;
  Leave = λ here below tag kids s. s.at + 1 < 2 ^ 64;
}
