-- No element of former properties has a role where it is put back.
use Rattle.std.proofs.Common.{◌≡◌, List, [], ◌∷◌, Bool, true, false, ◌&&◌, ◌||◌, not, ◌⊎◌, inl, inr, Option, Some, None, is_some, refl, sym, ap, ◌∙◌, true≢false, if◌then◌else◌}
use Rattle.std.proofs.lemmas.Bool.{and_from, and_left, and_right, false_from_ne_true, or_right}
use Rattle.redl_laws.proofs.Soundness.AlikeTags.{Like, like_quiet}
use Rattle.redl_laws.proofs.Soundness.Ancestors.{at_props, restored_change}
use Rattle.redl_laws.proofs.Soundness.ShutLists.{rule_8_of}
use Rattle.redl_laws.proofs.Soundness.Walk.{Ground, change_props, everywhere-only, everywhere-without, everywhere-⊕, if_both, made, owner_of, owner_quiet, props_owner, rejected_former, rejected_found}
use Rattle.redl_stays_sound.proofs.Settled.Places.{shut-p, shut-tc, shut-tr}
use Rattle.redl_stays_sound.proofs.Settled.Roles.{no-role}
use Rattle.redl_stays_sound.specs.Settled.{has_no_role}
use Rattle.redl_tree.proofs.Roles.Fits.{open_tail}
use Rattle.redl_tree.proofs.Roles.Named.{by_name}
use Rattle.redl_tree.specs.Decisions.Pass.{pass}
use Rattle.redl_tree.specs.Decisions.Restored.{Rejected, after_change, is_uncovered, present, rejected, restored}
use Rattle.redl_tree.specs.Model.Kids.{only, without}
use Rattle.redl_tree.specs.Model.Nodes.{Nodes, Tag, bytes, element, no_nodes}
use Rattle.redl_tree.specs.Roles.Kinds.{is_change}
use Rattle.redl_tree.specs.Roles.Names.{is, is_any}
use Rattle.redl_tree.specs.Roles.Places.{cell_trace_of, in_cell_props, in_mark_props, in_row_props, is_open, is_quiet, prop_of, role, row_trace_of, trace_of, within}
use Rattle.redl_tree.specs.Rules.Sound.{below_change, test_8}
use Rattle.redl_tree.specs.Rules.Tests.{everywhere}
use Rattle.redl_tree.specs.declared.kinds.Prop.{Prop}
use Rattle.redl_tree.specs.declared.kinds.Prop.TheVariants as props
use Rattle.redl_tree.specs.declared.kinds.Say.{Say}

-- ---- one element of former properties

-- put back at this place it is no mark, and holds none as the properties of one
record IsCalm (new : List Tag) (tag : Tag) : Type 0 where
  holds : (is "rPr" tag && within ("pPr" ∷ "p" ∷ []) new) ≡ false
  mark : (in_mark_props new && is_some (trace_of tag)) ≡ false
  row : (in_row_props new && is_some (row_trace_of tag)) ≡ false
  cell : (in_cell_props new && is_some (cell_trace_of tag)) ≡ false

no-prop : (ancestors : List Tag) (prop : Option Prop) → is_some prop ≡ false → at_props ancestors prop ≡ false
no-prop ancestors None e = refl
no-prop ancestors (Some prop) e = absurd (true≢false e)

calm-role : (old new : List Tag) (tag : Tag) (kids : Nodes) → below_change old ≡ true → is_open new ≡ false → (is_some (prop_of tag) ≡ false) → IsCalm new tag
    → has_no_role new tag kids ≡ true
calm-role old new tag kids below shut none calm = no-role new tag kids (record {
  content = and_left (is_open new) (is_some (trace_of tag)) shut;
  mark = calm.mark;
  row = calm.row;
  cell = calm.cell;
  change = no-prop new (prop_of tag) none;
})

pub shut-more : (tag : Tag) (ancestors : List Tag) → is_open ancestors ≡ false → is_open (tag ∷ ancestors) ≡ false
shut-more tag ancestors e = false_from_ne_true (is_open (tag ∷ ancestors)) (λ o. true≢false (sym (open_tail tag ancestors o) ∙ e))

-- below such an element each one is calm
calm-below : (new : List Tag) (tag kid : Tag) → is_open new ≡ false → (is "rPr" tag && within ("pPr" ∷ "p" ∷ []) new) ≡ false → IsCalm (tag ∷ new) kid
calm-below new tag kid shut holds = record {
  holds = and_right (is "rPr" kid) (within ("pPr" ∷ "p" ∷ []) (tag ∷ new)) (and_right (is "pPr" tag) (within ("p" ∷ []) new) (shut-p new shut));
  mark = and_left (in_mark_props (tag ∷ new)) (is_some (trace_of kid)) holds;
  row = and_left (in_row_props (tag ∷ new)) (is_some (row_trace_of kid)) (and_right (is "trPr" tag) (within ("tr" ∷ []) new) (shut-tr new shut));
  cell = and_left (in_cell_props (tag ∷ new)) (is_some (cell_trace_of kid)) (and_right (is "tcPr" tag) (within ("tc" ∷ []) new) (shut-tc new shut));
}

-- ---- all of them

calm-walk : (old new : List Tag) (nodes : Nodes) → below_change old ≡ true → is_open new ≡ false → Ground test_8 old nodes
    → ((tag : Tag) → IsCalm new tag) → everywhere has_no_role new nodes ≡ true
calm-walk old new no_nodes below shut g calm = refl
calm-walk old new (bytes b rest) below shut g calm = calm-walk old new rest below shut g calm
calm-walk old new (element tag kids rest) below shut g calm =
    and_from _ _ (and_from _ _
    (calm-role old new tag kids below shut (rule_8_of old tag kids g.0.rules.rule_8 below).prop (calm tag))
    (calm-walk (tag ∷ old) (tag ∷ new) kids (or_right (is_change (role old tag)) (below_change old) below) (shut-more tag new shut) g.1
    (λ kid. calm-below new tag kid shut (calm tag).holds)))
    (calm-walk old new rest below shut g.2 calm)

-- those that no change of these properties covers are left out
calm-without : (old new : List Tag) (names : Tag → Bool) (nodes : Nodes) → below_change old ≡ true → is_open new ≡ false → Ground test_8 old nodes
    → ((tag : Tag) → names tag ≡ false → IsCalm new tag) → everywhere has_no_role new (without names nodes) ≡ true
calm-without old new names no_nodes below shut g calm = refl
calm-without old new names (bytes b rest) below shut g calm = calm-without old new names rest below shut g calm
calm-without old new names (element tag kids rest) below shut g calm =
    at (names tag) refl (calm-without old new names rest below shut g.2 calm)
  where
    at : (b : Bool) → names tag ≡ b → everywhere has_no_role new (without names rest) ≡ true
        → everywhere has_no_role new (if b then without names rest else element tag kids (without names rest)) ≡ true
    at true e later = later
    at false e later =
        and_from _ _ (and_from _ _
        (calm-role old new tag kids below shut (rule_8_of old tag kids g.0.rules.rule_8 below).prop (calm tag e))
        (calm-walk (tag ∷ old) (tag ∷ new) kids (or_right (is_change (role old tag)) (below_change old) below) (shut-more tag new shut) g.1
        (λ kid. calm-below new tag kid shut (calm tag e).holds)))
        later

-- ---- what each change puts back

-- the properties have none of these names
record IsOther (tag : Tag) : Type 0 where
  rPr : is "rPr" tag ≡ false
  pPr : is "pPr" tag ≡ false
  trPr : is "trPr" tag ≡ false
  tcPr : is "tcPr" tag ≡ false

module _ (new : List Tag) (b kid : Tag) where
  in-mark : is "rPr" b ≡ false → (in_mark_props (b ∷ new) && is_some (trace_of kid)) ≡ false
  in-mark e = and_left (in_mark_props (b ∷ new)) (is_some (trace_of kid)) (and_left (is "rPr" b) (within ("pPr" ∷ "p" ∷ []) new) e)

  in-row : is "trPr" b ≡ false → (in_row_props (b ∷ new) && is_some (row_trace_of kid)) ≡ false
  in-row e = and_left (in_row_props (b ∷ new)) (is_some (row_trace_of kid)) (and_left (is "trPr" b) (within ("tr" ∷ []) new) e)

  in-cell : is "tcPr" b ≡ false → (in_cell_props (b ∷ new) && is_some (cell_trace_of kid)) ≡ false
  in-cell e = and_left (in_cell_props (b ∷ new)) (is_some (cell_trace_of kid)) (and_left (is "tcPr" b) (within ("tc" ∷ []) new) e)

  in-para : is "pPr" b ≡ false → (is "rPr" kid && within ("pPr" ∷ "p" ∷ []) (b ∷ new)) ≡ false
  in-para e = and_right (is "rPr" kid) (within ("pPr" ∷ "p" ∷ []) (b ∷ new)) (and_left (is "pPr" b) (within ("p" ∷ []) new) e)

  calm-other : IsOther b → IsCalm (b ∷ new) kid
  calm-other other = record { holds = in-para other.pPr; mark = in-mark other.rPr; row = in-row other.trPr; cell = in-cell other.tcPr }

-- marks by their names

some-trace : (a b c d : Bool) → (a || b || c || d || false) ≡ false
    → (a ≡ false) × (b ≡ false) × (c ≡ false) × (d ≡ false)
some-trace false false false false e = (refl, refl, refl, refl)
some-trace true b c d e = absurd (true≢false e)
some-trace false true c d e = absurd (true≢false e)
some-trace false false true d e = absurd (true≢false e)
some-trace false false false true e = absurd (true≢false e)

no-trace : (kid : Tag) → is_any ("ins" ∷ "del" ∷ "moveFrom" ∷ "moveTo" ∷ []) kid ≡ false → is_some (trace_of kid) ≡ false
no-trace kid e = at (is "ins" kid) (is "del" kid) (is "moveFrom" kid) (is "moveTo" kid) refl refl refl refl e
  where
    at : (a b c d : Bool) → is "ins" kid ≡ a → is "del" kid ≡ b → is "moveFrom" kid ≡ c → is "moveTo" kid ≡ d → (a || (b || (c || (d || false)))) ≡ false
        → is_some (trace_of kid) ≡ false
    at true b c d p q r s e = absurd (true≢false e)
    at false true c d p q r s e = absurd (true≢false e)
    at false false true d p q r s e = absurd (true≢false e)
    at false false false true p q r s e = absurd (true≢false e)
    at false false false false p q r s e = rw (p, q, r, s) refl

no-row : (kid : Tag) → is_any ("ins" ∷ "del" ∷ []) kid ≡ false → is_some (row_trace_of kid) ≡ false
no-row kid e = at (is "ins" kid) (is "del" kid) refl refl e
  where
    at : (a b : Bool) → is "ins" kid ≡ a → is "del" kid ≡ b → (a || (b || false)) ≡ false → is_some (row_trace_of kid) ≡ false
    at true b p q e = absurd (true≢false e)
    at false true p q e = absurd (true≢false e)
    at false false p q e = rw (p, q) refl

no-cell : (kid : Tag) → is_any ("cellIns" ∷ "cellDel" ∷ "cellMerge" ∷ []) kid ≡ false → is_some (cell_trace_of kid) ≡ false
no-cell kid e = at (is "cellIns" kid) (is "cellDel" kid) (is "cellMerge" kid) refl refl e
  where
    at : (a b c : Bool) → is "cellIns" kid ≡ a → is "cellDel" kid ≡ b → (a || (b || (c || false))) ≡ false → is_some (cell_trace_of kid) ≡ false
    at true b c p q e = absurd (true≢false e)
    at false true c p q e = absurd (true≢false e)
    at false false c p q e = rw (p, q) refl

not-rPr : (kid : Tag) → is_any ("rPr" ∷ "sectPr" ∷ []) kid ≡ false → is "rPr" kid ≡ false
not-rPr kid e = at (is "rPr" kid) (is "sectPr" kid || false) e
  where
    at : (a b : Bool) → (a || b) ≡ false → a ≡ false
    at true b e = absurd (true≢false e)
    at false b e = refl

-- a kid that is put back is calm, by the name of the properties
calm-kid : (prop : Prop) (new : List Tag) (b kid : Tag) → is (owner_of prop) b ≡ true → is_uncovered prop kid ≡ false → IsCalm (b ∷ new) kid
calm-kid props.Run new b kid e out = record {
  holds = in-para new b kid (by_name (λ t. is "pPr" t ≡ false) "rPr" b e refl);
  mark = and_right (in_mark_props (b ∷ new)) (is_some (trace_of kid)) (no-trace kid out);
  row = in-row new b kid (by_name (λ t. is "trPr" t ≡ false) "rPr" b e refl);
  cell = in-cell new b kid (by_name (λ t. is "tcPr" t ≡ false) "rPr" b e refl);
}
calm-kid props.Para new b kid e out = record {
  holds = and_left (is "rPr" kid) (within ("pPr" ∷ "p" ∷ []) (b ∷ new)) (not-rPr kid out);
  mark = in-mark new b kid (by_name (λ t. is "rPr" t ≡ false) "pPr" b e refl);
  row = in-row new b kid (by_name (λ t. is "trPr" t ≡ false) "pPr" b e refl);
  cell = in-cell new b kid (by_name (λ t. is "tcPr" t ≡ false) "pPr" b e refl);
}
calm-kid props.Sect new b kid e out = calm-other new b kid (record {
  rPr = by_name (λ t. is "rPr" t ≡ false) "sectPr" b e refl;
  pPr = by_name (λ t. is "pPr" t ≡ false) "sectPr" b e refl;
  trPr = by_name (λ t. is "trPr" t ≡ false) "sectPr" b e refl;
  tcPr = by_name (λ t. is "tcPr" t ≡ false) "sectPr" b e refl;
})
calm-kid props.Table new b kid e out = calm-other new b kid (record {
  rPr = by_name (λ t. is "rPr" t ≡ false) "tblPr" b e refl;
  pPr = by_name (λ t. is "pPr" t ≡ false) "tblPr" b e refl;
  trPr = by_name (λ t. is "trPr" t ≡ false) "tblPr" b e refl;
  tcPr = by_name (λ t. is "tcPr" t ≡ false) "tblPr" b e refl;
})
calm-kid props.Except new b kid e out = calm-other new b kid (record {
  rPr = by_name (λ t. is "rPr" t ≡ false) "tblPrEx" b e refl;
  pPr = by_name (λ t. is "pPr" t ≡ false) "tblPrEx" b e refl;
  trPr = by_name (λ t. is "trPr" t ≡ false) "tblPrEx" b e refl;
  tcPr = by_name (λ t. is "tcPr" t ≡ false) "tblPrEx" b e refl;
})
calm-kid props.Row new b kid e out = record {
  holds = in-para new b kid (by_name (λ t. is "pPr" t ≡ false) "trPr" b e refl);
  mark = in-mark new b kid (by_name (λ t. is "rPr" t ≡ false) "trPr" b e refl);
  row = and_right (in_row_props (b ∷ new)) (is_some (row_trace_of kid)) (no-row kid out);
  cell = in-cell new b kid (by_name (λ t. is "tcPr" t ≡ false) "trPr" b e refl);
}
calm-kid props.Cell new b kid e out = record {
  holds = in-para new b kid (by_name (λ t. is "pPr" t ≡ false) "tcPr" b e refl);
  mark = in-mark new b kid (by_name (λ t. is "rPr" t ≡ false) "tcPr" b e refl);
  row = in-row new b kid (by_name (λ t. is "trPr" t ≡ false) "tcPr" b e refl);
  cell = and_right (in_cell_props (b ∷ new)) (is_some (cell_trace_of kid)) (no-cell kid out);
}

-- ---- properties with a rejected change

module _ (old new : List Tag) (a b ch : Tag) (l : Like a b) (quiet : is_quiet a ≡ true) (change : is_change (role (a ∷ old) ch) ≡ true) where
  shut-here : is_open (b ∷ new) ≡ false
  shut-here = rw (like_quiet a b l ∙ quiet) refl

  put-back : (prop : Prop) → is (owner_of prop) b ≡ true → (former : Nodes) → ((former ≡ no_nodes) ⊎ ((f : Tag) × Ground test_8 (f ∷ ch ∷ a ∷ old) former))
      → everywhere has_no_role (b ∷ new) (without (is_uncovered prop) former) ≡ true
  put-back prop e former (inl none) = rw none refl
  put-back prop e former (inr (f, g)) =
      calm-without (f ∷ ch ∷ a ∷ old) (b ∷ new) (is_uncovered prop) former (restored_change a ch f old change) shut-here g (λ kid out. calm-kid prop new b kid e out)

  put-back-all : (prop : Prop) → is (owner_of prop) b ≡ true → ((kid : Tag) → is_uncovered prop kid ≡ false) → (former : Nodes)
      → ((former ≡ no_nodes) ⊎ ((f : Tag) × Ground test_8 (f ∷ ch ∷ a ∷ old) former)) → everywhere has_no_role (b ∷ new) former ≡ true
  put-back-all prop e covers former (inl none) = rw none refl
  put-back-all prop e covers former (inr (f, g)) =
      calm-walk (f ∷ ch ∷ a ∷ old) (b ∷ new) former (restored_change a ch f old change) shut-here g (λ kid. calm-kid prop new b kid e (covers kid))

  restored-all : (prop : Prop) → is (owner_of prop) b ≡ true → (current former : Nodes) → everywhere has_no_role (b ∷ new) current ≡ true
      → ((former ≡ no_nodes) ⊎ ((f : Tag) × Ground test_8 (f ∷ ch ∷ a ∷ old) former)) → everywhere has_no_role (b ∷ new) (restored prop current former) ≡ true
  restored-all props.Run e current former h g =
      everywhere-⊕ has_no_role (b ∷ new) (only (is_uncovered props.Run) current) (without (is_uncovered props.Run) former)
      (everywhere-only (is_uncovered props.Run) has_no_role (b ∷ new) current h) (put-back props.Run e former g)
  restored-all props.Para e current former h g =
      everywhere-⊕ has_no_role (b ∷ new) (without (is_uncovered props.Para) former) (only (is_uncovered props.Para) current)
      (put-back props.Para e former g) (everywhere-only (is_uncovered props.Para) has_no_role (b ∷ new) current h)
  restored-all props.Sect e current former h g =
      everywhere-⊕ has_no_role (b ∷ new) (only (is_uncovered props.Sect) current) (without (is_uncovered props.Sect) former)
      (everywhere-only (is_uncovered props.Sect) has_no_role (b ∷ new) current h) (put-back props.Sect e former g)
  restored-all props.Table e current former h g = put-back-all props.Table e (λ kid. refl) former g
  restored-all props.Except e current former h g = put-back-all props.Except e (λ kid. refl) former g
  restored-all props.Row e current former h g =
      everywhere-⊕ has_no_role (b ∷ new) (without (is_uncovered props.Row) former) (only (is_uncovered props.Row) current)
      (put-back props.Row e former g) (everywhere-only (is_uncovered props.Row) has_no_role (b ∷ new) current h)
  restored-all props.Cell e current former h g =
      everywhere-⊕ has_no_role (b ∷ new) (without (is_uncovered props.Cell) former) (only (is_uncovered props.Cell) current)
      (put-back props.Cell e former g) (everywhere-only (is_uncovered props.Cell) has_no_role (b ∷ new) current h)

same-owner : (prop : Prop) (a b : Tag) → Like a b → is (owner_of prop) b ≡ is (owner_of prop) a
same-owner props.Run a b l = l.name "rPr" refl
same-owner props.Para a b l = l.name "pPr" refl
same-owner props.Sect a b l = l.name "sectPr" refl
same-owner props.Table a b l = l.name "tblPr" refl
same-owner props.Except a b l = l.name "tblPrEx" refl
same-owner props.Row a b l = l.name "trPr" refl
same-owner props.Cell a b l = l.name "tcPr" refl

-- the kids of an element that stays
pub made-settled : (says : List Say) (old new : List Tag) (a b : Tag) (kids : Nodes) → Like a b → Ground test_8 (a ∷ old) kids
    → everywhere has_no_role (b ∷ new) (pass says (a ∷ old) kids) ≡ true → everywhere has_no_role (b ∷ new) (made says old a kids) ≡ true
made-settled says old new a b kids l g h = at (rejected says kids) refl
  where
    current : everywhere has_no_role (b ∷ new) (present old a (pass says (a ∷ old) kids)) ≡ true
    current = if_both (λ n. everywhere has_no_role (b ∷ new) n ≡ true) (is "rPr" a && not (within ("pPr" ∷ "p" ∷ []) old))
        (without (is_uncovered props.Run) (pass says (a ∷ old) kids)) (pass says (a ∷ old) kids)
        (λ e. everywhere-without (is_uncovered props.Run) has_no_role (b ∷ new) (pass says (a ∷ old) kids) h) (λ e. h)

    at : (u : Option Rejected) → rejected says kids ≡ u → everywhere has_no_role (b ∷ new) (after_change old a u (pass says (a ∷ old) kids)) ≡ true
    at None e = h
    at (Some u) e =
        let f = rejected_found test_8 says (a ∷ old) kids u g e in
        let name = props_owner u.prop a old (change_props (a ∷ old) f.change u.prop f.role_is) in
        restored-all old new a b f.change l (owner_quiet u.prop a name) (ap is_change f.role_is) u.prop (same-owner u.prop a b l ∙ name)
        (present old a (pass says (a ∷ old) kids)) u.former current (rejected_former test_8 (a ∷ old) u f)
