-- What the ancestors of an element are to it, in two answers, and its role by these alone: whether one of them is quiet, and
-- what the nearest one is. Code that goes down a tree carries the answers in place of the ancestors. Each one is said in the
-- words of `Places`.
use Rattle.std.specs.Prelude.{List, [], ◌∷◌, Bool, ◌||◌, not, Option, None, if◌then◌else◌}
use Rattle.std.specs.Option.{option_map, unwrap_or}
use Rattle.std.specs.List.{list_any}
use Rattle.redl_tree.specs.Model.Nodes.{Tag}
use Rattle.redl_tree.specs.Roles.Names.{is}
use Rattle.redl_tree.specs.Roles.Places.{is_quiet, within, has_run_props, in_run_owner, in_run_props, in_mark_props, in_para_props, in_sect_props, in_table_props, in_except_props, in_row_props, in_cell_props, trace_of, row_trace_of, cell_trace_of, change_name, placed}
use Rattle.redl_tree.specs.declared.kinds.Prop.{Prop}
use Rattle.redl_tree.specs.declared.kinds.Prop.TheVariants.{Run, Para, Sect, Table, Except, Row as RowProp, Cell as CellProp}
use Rattle.redl_tree.specs.declared.kinds.Kind.{Kind}
use Rattle.redl_tree.specs.declared.kinds.Kind.TheVariants.{Plain, Content, Mark, Row, Cell, Change}
use Rattle.redl_tree.specs.declared.around.Around.{Around}
use Rattle.redl_tree.specs.declared.around.Parent.{Parent}
use Rattle.redl_tree.specs.declared.around.Parent.TheVariants.{Other, Para as InPara, Row as InRow, Cell as InCell, Table as InTable, Body as InBody, Run as InRun, ParaProps, MarkProps, RunProps, SectProps, TableProps, ExceptProps, RowProps, CellProps}

-- What the nearest of these ancestors is. No two of the lines hold of the same ancestors.
abbrev pub parent_of : List Tag → Parent
parent_of ancestors =
    if within ("p" ∷ []) ancestors then InPara
    else if within ("tr" ∷ []) ancestors then InRow
    else if within ("tc" ∷ []) ancestors then InCell
    else if within ("tbl" ∷ []) ancestors then InTable
    else if within ("body" ∷ []) ancestors then InBody
    else if in_run_owner ancestors then InRun
    else if in_para_props ancestors then ParaProps
    else if in_mark_props ancestors then MarkProps
    else if in_run_props ancestors then RunProps
    else if in_sect_props ancestors then SectProps
    else if in_table_props ancestors then TableProps
    else if in_except_props ancestors then ExceptProps
    else if in_row_props ancestors then RowProps
    else if in_cell_props ancestors then CellProps
    else Other

-- what these ancestors are to an element, the nearest first
abbrev pub around_of : List Tag → Around
around_of ancestors = record { quiet = list_any is_quiet ancestors; parent = parent_of ancestors }

-- what an open element is to its kids, or else this
abbrev pub opened : Tag → Parent → Parent
opened tag other =
    if is "p" tag then InPara
    else if is "tr" tag then InRow
    else if is "tc" tag then InCell
    else if is "tbl" tag then InTable
    else if is "body" tag then InBody
    else if has_run_props tag then InRun
    else other

-- the properties of a parent, by their name
abbrev pub props_in : Parent → Tag → Parent
props_in InPara tag = if is "pPr" tag then ParaProps else Other
props_in ParaProps tag = if is "rPr" tag then MarkProps else if is "sectPr" tag then SectProps else Other
props_in InRun tag = if is "rPr" tag then RunProps else Other
props_in InBody tag = if is "sectPr" tag then SectProps else Other
props_in InTable tag = if is "tblPr" tag then TableProps else Other
props_in InRow tag = if is "tblPrEx" tag then ExceptProps else if is "trPr" tag then RowProps else Other
props_in InCell tag = if is "tcPr" tag then CellProps else Other
props_in _ tag = Other

-- the parent that the kids of an element see, where `quiet` and `parent` are of its own ancestors
abbrev pub parent_inside : Tag → Bool → Parent → Parent
parent_inside tag quiet parent = if quiet then props_in parent tag else opened tag (props_in parent tag)

-- the same with this one as the nearest ancestor
abbrev pub around_inside : Tag → Around → Around
around_inside tag here = record {
  quiet = is_quiet tag || here.quiet;
  parent = parent_inside tag here.quiet here.parent;
}

-- what an element marks in these properties
abbrev pub mark_in : Parent → Tag → Option Kind
mark_in MarkProps tag = option_map Mark (trace_of tag)
mark_in RowProps tag = option_map Row (row_trace_of tag)
mark_in CellProps tag = option_map Cell (cell_trace_of tag)
mark_in _ tag = None

-- the role of an element that changes these properties, by its name
abbrev pub changed : Prop → Tag → Kind
changed prop tag = if is (change_name prop) tag then Change prop else Plain

-- the role of an element that changes properties, in these
abbrev pub change_in : Parent → Tag → Kind
change_in RunProps tag = changed Run tag
change_in MarkProps tag = changed Run tag
change_in ParaProps tag = changed Para tag
change_in SectProps tag = changed Sect tag
change_in TableProps tag = changed Table tag
change_in ExceptProps tag = changed Except tag
change_in RowProps tag = changed RowProp tag
change_in CellProps tag = changed CellProp tag
change_in _ tag = Plain

-- the role of an element in these properties
abbrev pub role_below : Parent → Tag → Kind
role_below parent tag = unwrap_or (mark_in parent tag) (change_in parent tag)

-- the role of an element by these answers
abbrev pub role_in : Around → Tag → Kind
role_in here tag =
    unwrap_or (placed (not here.quiet) (option_map Content (trace_of tag))) (role_below here.parent tag)
