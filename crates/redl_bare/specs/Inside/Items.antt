-- What the code finds in one node of a list.
use Rattle.std.specs.Prelude.{List, ◌++◌, Option, Some, None, if◌then◌else◌}
use Rattle.redl_tree.specs.Model.Nodes.{Tag, Nodes, Item, bytes_item, element_item, idle_item}
use Rattle.redl_tree.specs.Model.IdleTexts.{idle_nodes}
use Rattle.redl_tree.specs.Roles.Names.{is}
use Rattle.redl_bare.specs.Marks.{Stamp, Marks, stamp_in, is_run_change, change_in, marks_inside}
use Rattle.redl_bare.specs.Units.{BareUnit, in_marks, byte_texts, start_units, end_texts, end_things, end_units, place_inside, units_in}
use Rattle.redl_bare.specs.declared.place.BarePlace.{BarePlace}

-- the units of what an element holds at a place, and those after them
abbrev pub held_at : BarePlace → Marks → Tag → Nodes → List BareUnit
held_at inside marks tag kids = units_in inside (marks_inside marks tag kids) kids

abbrev pub ends_at : BarePlace → BarePlace → Marks → Tag → List BareUnit
ends_at inside place marks tag = in_marks marks (end_texts inside) ++ end_things place marks tag

abbrev pub held_units : BarePlace → Marks → Tag → Nodes → List BareUnit
held_units place marks tag kids = held_at (place_inside place tag) marks tag kids

-- the units of an element
abbrev pub element_units : BarePlace → Marks → Tag → Nodes → List BareUnit
element_units place marks tag kids = start_units place marks tag ++ (held_units place marks tag kids ++ end_units place marks tag)

abbrev pub item_units : BarePlace → Marks → Item → List BareUnit
item_units place marks (bytes_item b) = in_marks marks (byte_texts place b)
item_units place marks (element_item tag kids) = element_units place marks tag kids
item_units place marks (idle_item t) = units_in place marks (idle_nodes t)

-- the change of a run that a node is, among the run's properties
abbrev pub item_change_in : Item → Option Stamp
item_change_in (bytes_item b) = None
item_change_in (element_item tag kids) = if is_run_change tag.kind then Some (stamp_in tag.tail) else None
item_change_in (idle_item t) = None

-- and that a node holds, among the run's kids
abbrev pub item_change : Item → Option Stamp
item_change (bytes_item b) = None
item_change (element_item tag kids) = if is "rPr" tag then change_in kids else None
item_change (idle_item t) = None
