-- What cuts a paragraph, a row or a cell, and what of the own rows or cells goes, a node at a time.
use Prim.Native.String.{String}
use Rattle.std.specs.Prelude.{List, [], ◌∷◌, Bool, true, false, ◌&&◌, if◌then◌else◌}
use Rattle.redl_tree.specs.Model.Nodes.{Tag, Nodes, Item, bytes_item, element_item, idle_item}
use Rattle.redl_tree.specs.Roles.Names.{is}
use Rattle.redl_tree.specs.Model.Kids.{kids_of_all}
use Rattle.redl_tree.specs.Roles.Lists.{into, is_direct}
use Rattle.redl_tree.specs.Decisions.Fates.{fate_of}
use Rattle.redl_tree.specs.Roles.Kinds.{is_cut, is_mark, is_row, is_cell}
use Rattle.redl_tree.specs.Decisions.Tables.{own, has_cut, row_goes, cell_is_cut}
use Rattle.redl_tree.specs.declared.kinds.Say.{Say}
use Rattle.redl_tree.specs.declared.kinds.Kind.{Kind}
use Rattle.redl_tree.specs.declared.lists.Reach.{Reach}
use Rattle.redl_tables.specs.declared.cuts.Owner.{Owner}
use Rattle.redl_tables.specs.declared.cuts.Owner.TheVariants.{Mark, Row, Cell}
use Rattle.redl_tables.specs.declared.owned.Unit.{Unit as Own}
use Rattle.redl_tables.specs.declared.owned.Unit.TheVariants as unit
use Rattle.redl_tables.specs.declared.owned.Finding.{Finding}
use Rattle.redl_tables.specs.declared.owned.Finding.TheVariants.{Nothing, Gone, Living}

-- a revision of this kind is one of the mark, the row or the cell, as the owner is
abbrev pub test_of : Owner → Kind → Bool
test_of Mark kind = is_mark kind
test_of Row kind = is_row kind
test_of Cell kind = is_cell kind

-- the properties that hold such members
abbrev pub name_of : Owner → String
name_of Mark = "rPr"
name_of Row = "trPr"
name_of Cell = "tcPr"

-- the node is such a member, and cut
abbrev pub item_cuts : Owner → List Say → Item → Bool
item_cuts owner says (bytes_item b) = false
item_cuts owner says (idle_item t) = false
item_cuts owner says (element_item tag kids) = test_of owner tag.kind && is_cut (fate_of says tag)

-- the node is properties that hold such a member
abbrev pub item_cuts_below : Owner → List Say → Item → Bool
item_cuts_below owner says (bytes_item b) = false
item_cuts_below owner says (idle_item t) = false
item_cuts_below owner says (element_item tag kids) = is (name_of owner) tag && has_cut (test_of owner) says kids

-- the node is a paragraph's properties, with such a member in those of its mark
abbrev pub item_cuts_para : List Say → Item → Bool
item_cuts_para says (bytes_item b) = false
item_cuts_para says (idle_item t) = false
item_cuts_para says (element_item tag kids) = is "pPr" tag && has_cut is_mark says (kids_of_all "rPr" kids)

-- ---- own rows and cells

-- the element name of rows and of cells
abbrev pub unit_name : Own → String
unit_name unit.Row = "tr"
unit_name unit.Cell = "tc"

-- a row or a cell goes, given its kids
abbrev pub unit_goes : Own → List Say → Nodes → Bool
unit_goes unit.Row says kids = row_goes says kids
unit_goes unit.Cell says kids = cell_is_cut says kids

-- what a shell holds: cells where it is in a row, and else rows
abbrev pub shell_unit : Bool → Own
shell_unit true = unit.Cell
shell_unit false = unit.Row

-- what is found where this comes first
abbrev pub and_then : Finding → Finding → Finding
and_then Nothing later = later
and_then Living later = Living
and_then Gone Living = Living
and_then Gone Nothing = Gone
and_then Gone Gone = Gone

-- none of these, all pass the test, or one doesn't
abbrev pub found_of : (Nodes → Bool) → List Nodes → Finding
found_of test [] = Nothing
found_of test (x ∷ xs) = and_then (if test x then Gone else Living) (found_of test xs)

-- there are some, and all of them go
abbrev pub is_gone : Finding → Bool
is_gone Gone = true
is_gone Nothing = false
is_gone Living = false

abbrev pub is_living : Finding → Bool
is_living Living = true
is_living Nothing = false
is_living Gone = false

-- what is found of an element, and of a node
abbrev pub elem_found : Own → List Say → Reach → Tag → Nodes → Finding
elem_found what says reach tag kids =
    if is_direct reach && is (unit_name what) tag then (if unit_goes what says kids then Gone else Living)
    else found_of (unit_goes what says) (own (unit_name what) (into reach tag) kids)

abbrev pub item_found : Own → List Say → Reach → Item → Finding
item_found what says reach (bytes_item b) = Nothing
item_found what says reach (idle_item t) = Nothing
item_found what says reach (element_item tag kids) = elem_found what says reach tag kids
