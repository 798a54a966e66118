-- What a marker has to know of its ancestors, beside their summary.
use Rattle.std.specs.Prelude.{List, [], Bool, false, ◌&&◌, ◌||◌, not, is_some, if◌then◌else◌}
use Rattle.std.specs.List.{list_any}
use Prim.Native.String.{String}
use Rattle.redl_tree.specs.Model.Nodes.{Tag, Nodes, Item, bytes_item, element_item, idle_item}
use Rattle.redl_tree.specs.Model.Kids.{some_element, has_element}
use Rattle.redl_tree.specs.Roles.Names.{is}
use Rattle.redl_tree.specs.Roles.Places.{trace_of}
use Rattle.redl_tree.specs.Roles.Lists.{into, is_direct, is_rows, is_cells}
use Rattle.redl_tree.specs.Model.Seen.{Spot, tags_of}
use Rattle.redl_tree.specs.Revisions.Markers.{is_row_revision, is_cell_revision, is_revised, is_in_grid, is_reached, any_leaves_grid}
use Rattle.redl_tree.specs.declared.lists.Place.{Place}
use Rattle.redl_visit.specs.declared.ancestors.Ancestors.{Ancestors}
use Rattle.redl_visit.specs.Summaries.{ancestors_of}
use Rattle.redl_index.specs.declared.markers.trail.Trail.{Trail}
use Rattle.redl_index.specs.declared.markers.trail.Below.{Below}

-- the trail of an element with these ancestors, the nearest first
abbrev pub trail_of : List Spot → Trail
trail_of ancestors = record {
  revised = list_any is_revised ancestors;
  astray = any_leaves_grid (tags_of ancestors);
}

-- the node is an element with this name, and some kid of it passes
abbrev pub makes_revised : String → (Tag → Bool) → Item → Bool
makes_revised name test (bytes_item b) = false
makes_revised name test (idle_item t) = false
makes_revised name test (element_item tag kids) = is name tag && some_element test kids

-- an element with these kids is a revision itself
abbrev pub is_revised_by : Tag → Nodes → Bool
is_revised_by tag kids =
    is_some (trace_of tag)
    || (is "tr" tag && is_row_revision kids)
    || (is "tc" tag && is_cell_revision kids)

-- an own row of the table, or own cell of the row, at this place
abbrev pub is_own_at : Place → Tag → Bool
is_own_at here tag =
    (is_direct here.reach && is_rows here.lot && is "tr" tag) || (is_direct here.reach && is_cells here.lot && is "tc" tag)

-- what an element at this place holds is in none of the own rows or cells of the table or row that the element is in
abbrev pub leaves_grid_at : Place → Tag → Bool
leaves_grid_at here tag = is_in_grid here && not (is_own_at here tag) && not (is_reached (into here.reach tag))

-- the same with this element as the nearest ancestor
abbrev pub inside_trail : Tag → Nodes → Ancestors → Trail → Trail
inside_trail tag kids here trail = record {
  revised = trail.revised || is_revised_by tag kids;
  astray = trail.astray || leaves_grid_at here.place tag;
}

-- the same, but for an element that holds no element: below it there is nothing to know
abbrev pub trail_below : Tag → Nodes → Ancestors → Trail → Trail
trail_below tag kids here trail = if has_element kids then inside_trail tag kids here trail else trail

-- what is handed down to the kids of a story's root
abbrev pub below_root : Tag → Nodes → Below
below_root tag kids = record { trail = inside_trail tag kids (ancestors_of []) (trail_of []); place = 0 }

-- a marker here is loose
abbrev pub is_loose_at : Ancestors → Trail → Bool
is_loose_at here trail = trail.revised || (is_in_grid here.place || trail.astray)
