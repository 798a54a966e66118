-- An idle element has no role, wherever it is: it marks nothing, changes no properties, and is no marker of a move.
use Rattle.std.proofs.Common.{◌≡◌, ◌∙◌, refl, ap, ℕ, List, [], ◌∷◌, Bool, true, false, ◌&&◌, Option, None, option_map}
use Rattle.std.proofs.Math.Bool.{and-false}
use Rattle.redl_tree.specs.Model.Nodes.{Tag}
use Rattle.redl_tree.specs.Roles.Places.{trace_of, row_trace_of, cell_trace_of, prop_of, is_range_edge, is_open, in_mark_props, in_row_props, in_cell_props, placed, change_at, first_role, role}
use Rattle.redl_tree.specs.Revisions.Markers.{edge_of}
use Rattle.redl_tree.specs.Rules.Sound.{is_marker}
use Rattle.redl_tree.specs.declared.kinds.Trace.{Trace}
use Rattle.redl_tree.specs.declared.kinds.Prop.{Prop}
use Rattle.redl_tree.specs.declared.kinds.Kind.{Kind}
use Rattle.redl_tree.specs.declared.kinds.Kind.TheVariants.{Plain, Content, Mark, Row, Cell}
use Rattle.redl_tree.proofs.Idle.Tags.{Idle, has-not}
use Rattle.redl_tree.proofs.Idle.Lists.{names_none}

-- an idle element marks no content and no paragraph
pub no_trace : (in_run : Bool) (tag : Tag) → Idle in_run tag → trace_of tag ≡ None
no_trace in_run tag i = rw (has-not "ins" in_run tag i refl, has-not "del" in_run tag i refl, has-not "moveFrom" in_run tag i refl, has-not "moveTo" in_run tag i refl) refl

-- an idle element marks no row
pub no_row_trace : (in_run : Bool) (tag : Tag) → Idle in_run tag → row_trace_of tag ≡ None
no_row_trace in_run tag i = rw (has-not "ins" in_run tag i refl, has-not "del" in_run tag i refl) refl

-- an idle element marks no cell
pub no_cell_trace : (in_run : Bool) (tag : Tag) → Idle in_run tag → cell_trace_of tag ≡ None
no_cell_trace in_run tag i = rw (has-not "cellIns" in_run tag i refl, has-not "cellDel" in_run tag i refl) refl

-- an idle element is no change of properties
pub no_prop : (in_run : Bool) (tag : Tag) → Idle in_run tag → prop_of tag ≡ None
no_prop in_run tag i =
    rw (has-not "rPrChange" in_run tag i refl, has-not "pPrChange" in_run tag i refl, has-not "sectPrChange" in_run tag i refl, has-not "tblPrChange" in_run tag i refl, has-not "tblPrExChange" in_run tag i refl, has-not "trPrChange" in_run tag i refl, has-not "tcPrChange" in_run tag i refl) refl

-- an idle element is no edge of a move
pub no_edge : (in_run : Bool) (tag : Tag) → Idle in_run tag → edge_of tag ≡ None
no_edge in_run tag i =
    rw (has-not "moveFromRangeStart" in_run tag i refl, has-not "moveFromRangeEnd" in_run tag i refl, has-not "moveToRangeStart" in_run tag i refl, has-not "moveToRangeEnd" in_run tag i refl) refl

-- an idle element neither starts nor ends the range of a move
pub no_range_edge : (in_run : Bool) (tag : Tag) → Idle in_run tag → is_range_edge tag ≡ false
no_range_edge in_run tag i = names_none ("moveFromRangeStart" ∷ "moveFromRangeEnd" ∷ "moveToRangeStart" ∷ "moveToRangeEnd" ∷ []) in_run refl tag i

pub no_marker : (has_id : List ℕ → Bool) (ancestors : List Tag) (in_run : Bool) (tag : Tag) → Idle in_run tag → is_marker has_id ancestors tag ≡ false
no_marker has_id ancestors in_run tag i =
    ap (λ edge. (is_open ancestors && edge) && has_id tag.tail) (no_range_edge in_run tag i)
    ∙ ap (λ b. b && has_id tag.tail) (and-false (is_open ancestors))

placed_none : (b : Bool) → placed b None ≡ None
placed_none true = refl
placed_none false = refl

abbrev kind_by : List Tag → Option Trace → Option Trace → Option Trace → Option Prop → Kind
kind_by ancestors trace row cell prop =
    first_role (placed (is_open ancestors) (option_map Content trace)
    ∷ placed (in_mark_props ancestors) (option_map Mark trace)
    ∷ placed (in_row_props ancestors) (option_map Row row)
    ∷ placed (in_cell_props ancestors) (option_map Cell cell)
    ∷ change_at ancestors prop ∷ [])

pub no_role : (ancestors : List Tag) (in_run : Bool) (tag : Tag) → Idle in_run tag → role ancestors tag ≡ Plain
no_role ancestors in_run tag i =
    ap (λ t. kind_by ancestors t (row_trace_of tag) (cell_trace_of tag) (prop_of tag)) (no_trace in_run tag i)
    ∙ ap (λ t. kind_by ancestors None t (cell_trace_of tag) (prop_of tag)) (no_row_trace in_run tag i)
    ∙ ap (λ t. kind_by ancestors None None t (prop_of tag)) (no_cell_trace in_run tag i)
    ∙ ap (kind_by ancestors None None None) (no_prop in_run tag i)
    ∙ nothing (is_open ancestors) (in_mark_props ancestors) (in_row_props ancestors) (in_cell_props ancestors)
  where
    nothing : (a b c d : Bool) → first_role (placed a None ∷ placed b None ∷ placed c None ∷ placed d None ∷ None ∷ []) ≡ Plain
    nothing a b c d = rw (placed_none a, placed_none b, placed_none c, placed_none d) refl
