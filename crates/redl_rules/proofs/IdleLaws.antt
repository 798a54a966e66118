-- What the rules ask for is nothing that idle elements are.
use Rattle.std.proofs.Common.{◌≡◌, ◌∙◌, refl, ap, Bool, true, false, not, Option, None}
use Rattle.std.specs.Option.{option_map, unwrap_or}
use Rattle.redl_tree.specs.Model.Nodes.{Tag}
use Rattle.redl_tree.specs.Roles.Arounds.{mark_in, change_in, role_below, role_in}
use Rattle.redl_tree.specs.Roles.Places.{placed}
use Rattle.redl_tree.specs.declared.around.Around.{Around}
use Rattle.redl_tree.specs.declared.around.Parent.{Parent}
use Rattle.redl_tree.specs.declared.around.Parent.TheVariants.{ParaProps, MarkProps, RunProps, SectProps, TableProps, ExceptProps, RowProps, CellProps}
use Rattle.redl_tree.specs.declared.kinds.Kind.{Kind}
use Rattle.redl_tree.specs.declared.kinds.Kind.TheVariants.{Plain, Content, Mark, Row, Cell}
use Rattle.redl_tree.specs.declared.kinds.Trace.{Trace}
use Rattle.redl_tree.proofs.Idle.Tags.{Idle, has-not}
use Rattle.redl_tree.proofs.Idle.Roles.{no_trace, no_row_trace, no_cell_trace}

no_mark : (in_run : Bool) (parent : Parent) (tag : Tag) → Idle in_run tag → mark_in parent tag ≡ None
no_mark in_run MarkProps tag i = ap (option_map Mark) (no_trace in_run tag i)
no_mark in_run RowProps tag i = ap (option_map Row) (no_row_trace in_run tag i)
no_mark in_run CellProps tag i = ap (option_map Cell) (no_cell_trace in_run tag i)
no_mark in_run _ tag i = refl

no_change_in : (in_run : Bool) (parent : Parent) (tag : Tag) → Idle in_run tag → change_in parent tag ≡ Plain
no_change_in in_run RunProps tag i = rw (has-not "rPrChange" in_run tag i refl) refl
no_change_in in_run MarkProps tag i = rw (has-not "rPrChange" in_run tag i refl) refl
no_change_in in_run ParaProps tag i = rw (has-not "pPrChange" in_run tag i refl) refl
no_change_in in_run SectProps tag i = rw (has-not "sectPrChange" in_run tag i refl) refl
no_change_in in_run TableProps tag i = rw (has-not "tblPrChange" in_run tag i refl) refl
no_change_in in_run ExceptProps tag i = rw (has-not "tblPrExChange" in_run tag i refl) refl
no_change_in in_run RowProps tag i = rw (has-not "trPrChange" in_run tag i refl) refl
no_change_in in_run CellProps tag i = rw (has-not "tcPrChange" in_run tag i refl) refl
no_change_in in_run _ tag i = refl

-- an idle element has no role, whatever its ancestors are to it
pub no_role_in : (in_run : Bool) (here : Around) (tag : Tag) → Idle in_run tag → role_in here tag ≡ Plain
no_role_in in_run here tag i =
    ap (λ (t : Option Trace). unwrap_or (placed (not here.quiet) (option_map Content t)) (role_below here.parent tag)) (no_trace in_run tag i)
    ∙ ap (λ (m : Option Kind). unwrap_or (placed (not here.quiet) None) (unwrap_or m (change_in here.parent tag))) (no_mark in_run here.parent tag i)
    ∙ ap (λ (k : Kind). unwrap_or (placed (not here.quiet) None) k) (no_change_in in_run here.parent tag i)
    ∙ either (not here.quiet)
  where
    either : (b : Bool) → unwrap_or (placed b None) Plain ≡ Plain
    either true = refl
    either false = refl
