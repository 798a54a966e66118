-- Where an element stands, by the names of its ancestors, and its role there (ECMA-376 Part 1, 17.13.5).
-- `ancestors` is the list of the tags of an element's ancestors, the nearest first; for a role, those in its story.
use Prim.Native.String.{String}
use Rattle.std.specs.Prelude.{ℕ, codes, List, [], ◌∷◌, Bool, true, false, ◌&&◌, ◌||◌, not, Option, Some, None, if◌then◌else◌}
use Rattle.std.specs.List.{list_any}
use Rattle.std.specs.Option.{option_map}
use Rattle.redl_tree.specs.Model.Nodes.{Tag}
use Rattle.redl_tree.specs.Roles.Names.{is, is_any, is_math}
use Rattle.redl_tree.specs.declared.kinds.Trace.{Trace}
use Rattle.redl_tree.specs.declared.kinds.Trace.TheVariants.{Ins, Del, From, To}
use Rattle.redl_tree.specs.declared.kinds.Prop.{Prop}
use Rattle.redl_tree.specs.declared.kinds.Prop.TheVariants.{Run, Para, Sect, Table, Except, Row as RowProp, Cell as CellProp}
use Rattle.redl_tree.specs.declared.kinds.Kind.{Kind}
use Rattle.redl_tree.specs.declared.kinds.Kind.TheVariants.{Plain, Content, Mark, Row, Cell, Change}

-- Properties of something, in place of its content (17.3.1, 17.3.2, 17.4, 17.5.2, 17.6; 22.1.2 for `ctrlPr`).
-- What stands below them is no content.
abbrev pub is_quiet : Tag → Bool
is_quiet tag =
    is_any ("pPr" ∷ "rPr" ∷ "sectPr" ∷ "tblPr" ∷ "tblPrEx" ∷ "trPr" ∷ "tcPr" ∷ "sdtPr" ∷ "sdtEndPr" ∷ "tblGrid" ∷ []) tag
    || is_math "ctrlPr" tag

-- an element is open where no ancestor is quiet
abbrev pub is_open : List Tag → Bool
is_open ancestors = not (list_any is_quiet ancestors)

-- the nearest ancestors have these names, and the last one of these is open:
-- with "rPr", "pPr" and "p", the place in an `rPr` in a `pPr` in an open `p`
abbrev pub within : List String → List Tag → Bool
within [] ancestors = is_open ancestors
within (name ∷ names) [] = false
within (name ∷ names) (tag ∷ ancestors) = is name tag && within names ancestors

-- what an element marks: inserted, deleted, moved from here, or moved to here
abbrev pub trace_of : Tag → Option Trace
trace_of tag =
    if is "ins" tag then Some Ins
    else if is "del" tag then Some Del
    else if is "moveFrom" tag then Some From
    else if is "moveTo" tag then Some To
    else None

-- what an element marks a table row as
abbrev pub row_trace_of : Tag → Option Trace
row_trace_of tag = if is "ins" tag then Some Ins else if is "del" tag then Some Del else None

-- what an element marks a table cell as
abbrev pub cell_trace_of : Tag → Option Trace
cell_trace_of tag = if is "cellIns" tag then Some Ins else if is "cellDel" tag then Some Del else None

-- the name of the elements that change these properties
abbrev pub change_name : Prop → String
change_name Run = "rPrChange"
change_name Para = "pPrChange"
change_name Sect = "sectPrChange"
change_name Table = "tblPrChange"
change_name Except = "tblPrExChange"
change_name RowProp = "trPrChange"
change_name CellProp = "tcPrChange"

-- whose properties a change element changes
abbrev pub prop_of : Tag → Option Prop
prop_of tag =
    if is (change_name Run) tag then Some Run
    else if is (change_name Para) tag then Some Para
    else if is (change_name Sect) tag then Some Sect
    else if is (change_name Table) tag then Some Table
    else if is (change_name Except) tag then Some Except
    else if is (change_name RowProp) tag then Some RowProp
    else if is (change_name CellProp) tag then Some CellProp
    else None

-- the name of the properties that a change is of
abbrev pub props_name : Prop → List ℕ
props_name Run = codes "rPr"
props_name Para = codes "pPr"
props_name Sect = codes "sectPr"
props_name Table = codes "tblPr"
props_name Except = codes "tblPrEx"
props_name RowProp = codes "trPr"
props_name CellProp = codes "tcPr"

-- the start or the end of the range of a move (17.13.5.23, 17.13.5.24, 17.13.5.27, 17.13.5.28)
abbrev pub is_range_edge : Tag → Bool
is_range_edge tag = is_any ("moveFromRangeStart" ∷ "moveFromRangeEnd" ∷ "moveToRangeStart" ∷ "moveToRangeEnd" ∷ []) tag

-- an element whose `rPr` describes runs of text (17.3.2, 17.5.2; 22.1.2 for `r` and `ctrlPr` of mathematics)
abbrev pub has_run_props : Tag → Bool
has_run_props tag = is_any ("r" ∷ "sdtPr" ∷ "sdtEndPr" ∷ []) tag || is_math "r" tag || is_math "ctrlPr" tag

-- the nearest ancestor is such an element, and open
abbrev pub in_run_owner : List Tag → Bool
in_run_owner [] = false
in_run_owner (tag ∷ ancestors) = has_run_props tag && is_open ancestors

-- in the `rPr` of such an element
abbrev pub in_run_props : List Tag → Bool
in_run_props [] = false
in_run_props (tag ∷ ancestors) = is "rPr" tag && in_run_owner ancestors

-- in the run properties of a paragraph's mark (17.3.1.29)
abbrev pub in_mark_props : List Tag → Bool
in_mark_props ancestors = within ("rPr" ∷ "pPr" ∷ "p" ∷ []) ancestors

-- in the properties of a paragraph (17.3.1.26)
abbrev pub in_para_props : List Tag → Bool
in_para_props ancestors = within ("pPr" ∷ "p" ∷ []) ancestors

-- in the properties of a section: of the last one in the body, or of one that ends with a paragraph (17.6)
abbrev pub in_sect_props : List Tag → Bool
in_sect_props ancestors = within ("sectPr" ∷ "body" ∷ []) ancestors || within ("sectPr" ∷ "pPr" ∷ "p" ∷ []) ancestors

-- in the properties of a table (17.4)
abbrev pub in_table_props : List Tag → Bool
in_table_props ancestors = within ("tblPr" ∷ "tbl" ∷ []) ancestors

-- in a row's exceptions to the properties of its table (17.4)
abbrev pub in_except_props : List Tag → Bool
in_except_props ancestors = within ("tblPrEx" ∷ "tr" ∷ []) ancestors

-- in the properties of a row (17.4)
abbrev pub in_row_props : List Tag → Bool
in_row_props ancestors = within ("trPr" ∷ "tr" ∷ []) ancestors

-- in the properties of a cell (17.4)
abbrev pub in_cell_props : List Tag → Bool
in_cell_props ancestors = within ("tcPr" ∷ "tc" ∷ []) ancestors

-- where a change of these properties stands
abbrev pub in_props : Prop → List Tag → Bool
in_props Run ancestors = in_run_props ancestors || in_mark_props ancestors
in_props Para ancestors = in_para_props ancestors
in_props Sect ancestors = in_sect_props ancestors
in_props Table ancestors = in_table_props ancestors
in_props Except ancestors = in_except_props ancestors
in_props RowProp ancestors = in_row_props ancestors
in_props CellProp ancestors = in_cell_props ancestors

-- a role, where the element stands at its place
abbrev pub placed : Bool → Option Kind → Option Kind
placed true kind = kind
placed false kind = None

-- the role of a change, where it stands in the properties that it changes
abbrev pub change_at : List Tag → Option Prop → Option Kind
change_at ancestors None = None
change_at ancestors (Some prop) = placed (in_props prop ancestors) (Some (Change prop))

-- the first role that an element has
abbrev pub first_role : List (Option Kind) → Kind
first_role [] = Plain
first_role (Some kind ∷ kinds) = kind
first_role (None ∷ kinds) = first_role kinds

-- The role of an element, markers of moves aside: it marks open content, the mark of a paragraph, a row or a cell as
-- inserted, deleted or moved, or it is a change of properties. No element has two of these.
abbrev pub role : List Tag → Tag → Kind
role ancestors tag =
    first_role (placed (is_open ancestors) (option_map Content (trace_of tag))
    ∷ placed (in_mark_props ancestors) (option_map Mark (trace_of tag))
    ∷ placed (in_row_props ancestors) (option_map Row (row_trace_of tag))
    ∷ placed (in_cell_props ancestors) (option_map Cell (cell_trace_of tag))
    ∷ change_at ancestors (prop_of tag) ∷ [])
