-- The role of an element is a kind of revision that has a name.
use Rattle.std.proofs.Common.{refl, Bool, true, false, cond, not, IfSome, IsTrue, Option, Some, None, option_map, if◌then◌else◌}
use Rattle.redl_tree.specs.Model.Nodes.{Tag}
use Rattle.redl_tree.specs.Roles.Names.{is}
use Rattle.redl_tree.specs.Roles.Places.{placed, trace_of}
use Rattle.redl_tree.specs.Roles.Arounds.{role_in, role_below, mark_in, change_in}
use Rattle.redl_tree.specs.declared.around.Around.{Around}
use Rattle.redl_tree.specs.declared.kinds.Kind.{Kind}
use Rattle.redl_tree.specs.declared.kinds.Kind.TheVariants.{Content, Mark, Row, Cell, Change, Plain}
use Rattle.redl_tree.specs.declared.kinds.Trace.{Trace}
use Rattle.redl_tree.specs.declared.kinds.Trace.TheVariants.{Ins, Del}
use Rattle.redl_tree.specs.declared.around.Parent.{Parent}
use Rattle.redl_tree.specs.declared.around.Parent.TheVariants.{ParaProps, MarkProps, RunProps, SectProps, TableProps, ExceptProps, RowProps, CellProps}
use Rattle.redl_tree.specs.declared.kinds.Prop.TheVariants.{Run, Para, Sect, Table, Except, Row as RowProp, Cell as CellProp}
use Rattle.std.specs.Option.{unwrap_or}
use Rattle.redl_tree.specs.declared.kinds.Prop.{Prop}
use Rattle.redl_kinds.specs.Kinds.{is_named}
use Rattle.redl_index.specs.Kinds.{kind_of}

abbrev pub IsNamed : Kind → Type 0
IsNamed kind = IfSome (kind_of kind) (λ kind. IsTrue (is_named kind))

named-or : (first : Option Kind) (other : Kind) → IfSome first IsNamed → IsNamed other → IsNamed (unwrap_or first other)
named-or None other h k = k
named-or (Some kind) other h k = h

named-placed : (holds : Bool) (kind : Option Kind) → IfSome kind IsNamed → IfSome (placed holds kind) IsNamed
named-placed true kind h = h
named-placed false kind h = tt

named-content : (trace : Option Trace) → IfSome (option_map Content trace) IsNamed
named-content None = tt
named-content (Some trace) = refl

named-mark : (trace : Option Trace) → IfSome (option_map Mark trace) IsNamed
named-mark None = tt
named-mark (Some trace) = refl

named-row : (is_ins is_del : Bool) → IfSome (option_map Row (cond is_ins (Some Ins) (cond is_del (Some Del) None))) IsNamed
named-row true is_del = refl
named-row false true = refl
named-row false false = tt

named-cell : (is_ins is_del : Bool) → IfSome (option_map Cell (cond is_ins (Some Ins) (cond is_del (Some Del) None))) IsNamed
named-cell true is_del = refl
named-cell false true = refl
named-cell false false = tt

named-below : (parent : Parent) (tag : Tag) → IfSome (mark_in parent tag) IsNamed
named-below MarkProps tag = named-mark (trace_of tag)
named-below RowProps tag = named-row (is "ins" tag) (is "del" tag)
named-below CellProps tag = named-cell (is "cellIns" tag) (is "cellDel" tag)
named-below _ tag = tt

named-changed : (prop : Prop) (b : Bool) → IsNamed (if b then Change prop else Plain)
named-changed prop true = refl
named-changed prop false = tt

named-change : (parent : Parent) (tag : Tag) → IsNamed (change_in parent tag)
named-change RunProps tag = named-changed Run (is "rPrChange" tag)
named-change MarkProps tag = named-changed Run (is "rPrChange" tag)
named-change ParaProps tag = named-changed Para (is "pPrChange" tag)
named-change SectProps tag = named-changed Sect (is "sectPrChange" tag)
named-change TableProps tag = named-changed Table (is "tblPrChange" tag)
named-change ExceptProps tag = named-changed Except (is "tblPrExChange" tag)
named-change RowProps tag = named-changed RowProp (is "trPrChange" tag)
named-change CellProps tag = named-changed CellProp (is "tcPrChange" tag)
named-change _ tag = tt

pub named-role_in : (here : Around) (tag : Tag) → IsNamed (role_in here tag)
named-role_in here tag =
    let content = option_map Content (trace_of tag) in
    named-or (placed (not here.quiet) content) (role_below here.parent tag) (named-placed (not here.quiet) content (named-content (trace_of tag)))
    (named-or (mark_in here.parent tag) (change_in here.parent tag) (named-below here.parent tag) (named-change here.parent tag))
