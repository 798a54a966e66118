-- An element that had no role in a sound story has none where it stands after a pass.
use Prim.Native.String.{String}
use Rattle.std.proofs.Common.{◌≡◌, List, [], ◌∷◌, Bool, true, false, ◌&&◌, ◌⊎◌, inl, inr, Option, Some, None, is_some, refl, sym, ap, ◌∙◌, true≢false}
use Rattle.std.proofs.lemmas.Bool.{and_from, and_left, and_parts, and_right, false_from_ne_true, or_cases}
use Rattle.redl_laws.proofs.Soundness.AlikeTags.{Like, like_prop, like_trace}
use Rattle.redl_laws.proofs.Soundness.Ancestors.{Came, Stood, at_props, by_prop, came_open, cell_came, mark_came, props_came, row_came}
use Rattle.redl_laws.proofs.Soundness.ShutLists.{rule_8_of}
use Rattle.redl_laws.proofs.Soundness.Walk.{NoMarkBelow, change_name, change_shut}
use Rattle.redl_stays_sound.proofs.Settled.Roles.{IsPlaceless}
use Rattle.redl_tree.proofs.Roles.Fits.{open_∷, true_false}
use Rattle.redl_tree.proofs.Roles.Named.{by_name}
use Rattle.redl_tree.specs.Model.Nodes.{Nodes, Tag}
use Rattle.redl_tree.specs.Roles.Kinds.{is_change}
use Rattle.redl_tree.specs.Roles.Names.{is}
use Rattle.redl_tree.specs.Roles.Places.{cell_trace_of, in_cell_props, in_mark_props, in_props, in_row_props, is_open, is_quiet, prop_of, role, row_trace_of, trace_of, within}
use Rattle.redl_tree.specs.Rules.Sound.{below_change, test_8}
use Rattle.redl_tree.specs.declared.kinds.Prop.{Prop}

-- ---- names

like-row : (a b : Tag) → Like a b → row_trace_of b ≡ row_trace_of a
like-row a b l = rw (l.name "ins" refl, l.name "del" refl) refl

like-cell : (a b : Tag) → Like a b → cell_trace_of b ≡ cell_trace_of a
like-cell a b l = rw (l.name "cellIns" refl, l.name "cellDel" refl) refl

-- ---- below a change

-- a shut place has no open parent with such a name
pub shut-owner : (name : String) → ((t : Tag) → is name t ≡ true → is_quiet t ≡ false) → (ancestors : List Tag) → is_open ancestors ≡ false → within (name ∷ []) ancestors ≡ false
shut-owner name loud [] e = refl
shut-owner name loud (tag ∷ ancestors) e =
    false_from_ne_true (is name tag && is_open ancestors) (λ h.
    let both = and_parts (is name tag) (is_open ancestors) h in
    true≢false (sym (open_∷ tag ancestors (loud tag both.0) ∙ both.1) ∙ e))

pub shut-p : (ancestors : List Tag) → is_open ancestors ≡ false → within ("p" ∷ []) ancestors ≡ false
shut-p = shut-owner "p" (λ t e. by_name (λ t. is_quiet t ≡ false) "p" t e refl)

pub shut-tr : (ancestors : List Tag) → is_open ancestors ≡ false → within ("tr" ∷ []) ancestors ≡ false
shut-tr = shut-owner "tr" (λ t e. by_name (λ t. is_quiet t ≡ false) "tr" t e refl)

pub shut-tc : (ancestors : List Tag) → is_open ancestors ≡ false → within ("tc" ∷ []) ancestors ≡ false
shut-tc = shut-owner "tc" (λ t e. by_name (λ t. is_quiet t ≡ false) "tc" t e refl)

-- what stood below a change stands in no properties that have marks
pub record NoMarks (old new : List Tag) : Type 0 where
  pub mark : below_change old ≡ true → in_mark_props new ≡ false
  pub row : below_change old ≡ true → in_row_props new ≡ false
  pub cell : below_change old ≡ true → in_cell_props new ≡ false

-- no change is such properties
not-change : (name : String) → ((t : Tag) → is_some (prop_of t) ≡ true → is name t ≡ false) → (old : List Tag) (a b : Tag) → is name b ≡ is name a
    → is_change (role old a) ≡ true → is name b ≡ false
not-change name other old a b same e = same ∙ other a (change_name old a e)

pub no-marks-kept : (old new : List Tag) (a b : Tag) → Came old new → Like a b → NoMarkBelow old new → NoMarks (a ∷ old) (b ∷ new)
no-marks-kept old new a b c l none = record {
  mark = λ e. at (is "rPr" b) (within ("pPr" ∷ "p" ∷ []) new) (or_cases (is_change (role old a)) (below_change old) e)
      (not-change "rPr" (λ t h. by_prop (λ t. is "rPr" t ≡ false) t h (refl, (refl, (refl, (refl, (refl, (refl, (refl, tt)))))))) old a b (l.name "rPr" refl)) none;
  row = λ e. at (is "trPr" b) (within ("tr" ∷ []) new) (or_cases (is_change (role old a)) (below_change old) e)
      (not-change "trPr" (λ t h. by_prop (λ t. is "trPr" t ≡ false) t h (refl, (refl, (refl, (refl, (refl, (refl, (refl, tt)))))))) old a b (l.name "trPr" refl))
      (λ below. shut-tr new (shut below));
  cell = λ e. at (is "tcPr" b) (within ("tc" ∷ []) new) (or_cases (is_change (role old a)) (below_change old) e)
      (not-change "tcPr" (λ t h. by_prop (λ t. is "tcPr" t ≡ false) t h (refl, (refl, (refl, (refl, (refl, (refl, (refl, tt)))))))) old a b (l.name "tcPr" refl))
      (λ below. shut-tc new (shut below));
}
  where
    shut : below_change old ≡ true → is_open new ≡ false
    shut below = came_open old new c ∙ change_shut old below

    at : (x y : Bool) → (is_change (role old a) ≡ true) ⊎ (below_change old ≡ true) → (is_change (role old a) ≡ true → x ≡ false) → (below_change old ≡ true → y ≡ false)
        → (x && y) ≡ false
    at x y (inl e) change below = and_left x y (change e)
    at x y (inr e) change below = and_right x y (below e)

pub no-marks-freed : (old new : List Tag) (a : Tag) → is_some (trace_of a) ≡ true → is_open old ≡ true → NoMarks (a ∷ old) new
no-marks-freed old new a trace opened = record { mark = λ e. absurd (none e); row = λ e. absurd (none e); cell = λ e. absurd (none e) }
  where
    none : below_change (a ∷ old) ≡ true → ⊥
    none e = at (or_cases (is_change (role old a)) (below_change old) e)
      where
        at : (is_change (role old a) ≡ true) ⊎ (below_change old ≡ true) → ⊥
        at (inl e) = true_false (is_some (trace_of a)) trace (by_prop (λ t. is_some (trace_of t) ≡ false) a (change_name old a e) (refl, (refl, (refl, (refl, (refl, (refl, (refl, tt))))))))
        at (inr e) = true_false (is_open old) opened (change_shut old e)

pub no-marks-joins : (old new : List Tag) (b : Tag) → is "p" b ≡ true → NoMarks old (b ∷ new)
no-marks-joins old new b e = record {
  mark = λ h. and_left (is "rPr" b) (within ("pPr" ∷ "p" ∷ []) new) (by_name (λ t. is "rPr" t ≡ false) "p" b e refl);
  row = λ h. and_left (is "trPr" b) (within ("tr" ∷ []) new) (by_name (λ t. is "trPr" t ≡ false) "p" b e refl);
  cell = λ h. and_left (is "tcPr" b) (within ("tc" ∷ []) new) (by_name (λ t. is "tcPr" t ≡ false) "p" b e refl);
}

-- ---- places come from places

came-and : (now then trace was : Bool) → trace ≡ was → (now ≡ true → then ≡ true) → (then && was) ≡ false → (now && trace) ≡ false
came-and now then trace was same back none =
    false_from_ne_true (now && trace) (λ h.
    let both = and_parts now trace h in
    true≢false (sym (and_from then was (back both.0) (sym same ∙ both.1)) ∙ none))

stood-place : (old : List Tag) (now then : Bool) → (now ≡ true → Stood old then) → (below_change old ≡ true → now ≡ false) → now ≡ true → then ≡ true
stood-place old now then stood none e = at (stood e)
  where
    at : Stood old then → then ≡ true
    at (inl s) = s
    at (inr below) = absurd (true_false now e (none below))

-- an element that stays
pub placeless-came : (old new : List Tag) (a b : Tag) (kids : Nodes) → Came old new → Like a b → NoMarks old new → test_8 old a kids ≡ true → IsPlaceless old a → IsPlaceless new b
placeless-came old new a b kids c l none rule was = record {
  content = rw (came_open old new c, like_trace a b l) was.content;
  mark = came-and (in_mark_props new) (in_mark_props old) (is_some (trace_of b)) (is_some (trace_of a)) (ap is_some (like_trace a b l))
      (stood-place old (in_mark_props new) (in_mark_props old) (mark_came old new c) none.mark) was.mark;
  row = came-and (in_row_props new) (in_row_props old) (is_some (row_trace_of b)) (is_some (row_trace_of a)) (ap is_some (like-row a b l))
      (stood-place old (in_row_props new) (in_row_props old) (row_came old new c) none.row) was.row;
  cell = came-and (in_cell_props new) (in_cell_props old) (is_some (cell_trace_of b)) (is_some (cell_trace_of a)) (ap is_some (like-cell a b l))
      (stood-place old (in_cell_props new) (in_cell_props old) (cell_came old new c) none.cell) was.cell;
  change = ap (at_props new) (like_prop a b l) ∙ no-change (prop_of a) refl;
}
  where
    no-change : (p : Option Prop) → prop_of a ≡ p → at_props new p ≡ false
    no-change None e = refl
    no-change (Some prop) e = false_from_ne_true (in_props prop new) (λ h. at (props_came prop old new c h))
      where
        at : Stood old (in_props prop old) → ⊥
        at (inl s) = true_false (at_props old (prop_of a)) (ap (at_props old) e ∙ s) was.change
        at (inr below) = true_false (is_some (prop_of a)) (ap is_some e) (rule_8_of old a kids rule below).prop
