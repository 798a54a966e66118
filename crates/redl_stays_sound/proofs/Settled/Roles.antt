-- An element has no role exactly where it stands at none of the places that its name would have one at.
use Rattle.std.proofs.Common.{◌≡◌, List, [], ◌∷◌, Bool, true, false, ◌&&◌, Option, Some, None, is_some, option_map, refl}
use Rattle.redl_laws.proofs.Soundness.Ancestors.{at_props}
use Rattle.redl_stays_sound.specs.Settled.{has_no_role}
use Rattle.redl_tree.specs.Model.Nodes.{Nodes, Tag}
use Rattle.redl_tree.specs.Roles.Places.{cell_trace_of, change_at, first_role, in_cell_props, in_mark_props, in_props, in_row_props, is_open, placed, prop_of, role, row_trace_of, trace_of}
use Rattle.redl_tree.specs.declared.kinds.Kind.{Kind}
use Rattle.redl_tree.specs.declared.kinds.Kind.TheVariants.{Cell, Change, Content, Mark, Plain, Row}
use Rattle.redl_tree.specs.declared.kinds.Prop.{Prop}

-- it stands at none of these places with such a name
pub record IsPlaceless (ancestors : List Tag) (tag : Tag) : Type 0 where
  pub content : (is_open ancestors && is_some (trace_of tag)) ≡ false
  pub mark : (in_mark_props ancestors && is_some (trace_of tag)) ≡ false
  pub row : (in_row_props ancestors && is_some (row_trace_of tag)) ≡ false
  pub cell : (in_cell_props ancestors && is_some (cell_trace_of tag)) ≡ false
  pub change : at_props ancestors (prop_of tag) ≡ false

-- ---- no place, no role

placed-none : {T : Type 0} (of : T → Kind) (here : Bool) (trace : Option T) → (here && is_some trace) ≡ false → placed here (option_map of trace) ≡ None
placed-none of true None e = refl
placed-none of true (Some trace) e = cc
placed-none of false trace e = refl

change-none : (ancestors : List Tag) (prop : Option Prop) → at_props ancestors prop ≡ false → change_at ancestors prop ≡ None
change-none ancestors None e = refl
change-none ancestors (Some prop) e = rw e refl

first-none : (a b c d e : Option Kind) → a ≡ None → b ≡ None → c ≡ None → d ≡ None → e ≡ None → first_role (a ∷ b ∷ c ∷ d ∷ e ∷ []) ≡ Plain
first-none a b c d e p q r s t = rw (p, q, r, s, t) refl

pub plain-here : (ancestors : List Tag) (tag : Tag) → IsPlaceless ancestors tag → role ancestors tag ≡ Plain
plain-here ancestors tag none =
    first-none _ _ _ _ _
    (placed-none Content (is_open ancestors) (trace_of tag) none.content)
    (placed-none Mark (in_mark_props ancestors) (trace_of tag) none.mark)
    (placed-none Row (in_row_props ancestors) (row_trace_of tag) none.row)
    (placed-none Cell (in_cell_props ancestors) (cell_trace_of tag) none.cell)
    (change-none ancestors (prop_of tag) none.change)

pub no-role : (ancestors : List Tag) (tag : Tag) (kids : Nodes) → IsPlaceless ancestors tag → has_no_role ancestors tag kids ≡ true
no-role ancestors tag kids none = rw (plain-here ancestors tag none) refl

-- ---- no role, no place

-- the first of some roles is none, and neither is one of the others
record Later (here : Bool) (some : Bool) (others : List (Option Kind)) : Type 0 where
  own : (here && some) ≡ false
  later : first_role others ≡ Plain

skipped : {T : Type 0} (of : T → Kind) → ((t : T) → of t ≡ Plain → ⊥) → (here : Bool) (trace : Option T) (others : List (Option Kind))
    → first_role (placed here (option_map of trace) ∷ others) ≡ Plain → Later here (is_some trace) others
skipped of kind true None others e = record { own = refl; later = e }
skipped of kind true (Some trace) others e = absurd (kind trace e)
skipped of kind false trace others e = record { own = refl; later = e }

no-change : (ancestors : List Tag) (prop : Option Prop) → first_role (change_at ancestors prop ∷ []) ≡ Plain → at_props ancestors prop ≡ false
no-change ancestors None e = refl
no-change ancestors (Some prop) e = at (in_props prop ancestors) e
  where
    at : (here : Bool) → first_role (placed here (Some (Change prop)) ∷ []) ≡ Plain → here ≡ false
    at true e = cc
    at false e = refl

pub placeless : (ancestors : List Tag) (tag : Tag) → role ancestors tag ≡ Plain → IsPlaceless ancestors tag
placeless ancestors tag e =
    let content = skipped Content (λ t h. cc) (is_open ancestors) (trace_of tag) _ e in
    let mark = skipped Mark (λ t h. cc) (in_mark_props ancestors) (trace_of tag) _ content.later in
    let row = skipped Row (λ t h. cc) (in_row_props ancestors) (row_trace_of tag) _ mark.later in
    let cell = skipped Cell (λ t h. cc) (in_cell_props ancestors) (cell_trace_of tag) _ row.later in
    record { content = content.own; mark = mark.own; row = row.own; cell = cell.own; change = no-change ancestors (prop_of tag) cell.later }
