-- Rules 4, 5 and 6, on properties, hold again after a pass: they look at the top of a list.
use Prim.Native.String.{String}
use Rattle.std.proofs.Common.{◌≡◌, ℕ, suc, ◌≤◌, List, [], ◌∷◌, Bool, true, false, ◌&&◌, not, ◌⊎◌, inl, inr, Option, Some, None, is_some, refl, sym, ap, ◌∙◌, true≢false, arith, ⊎_elim, if◌then◌else◌}
use Rattle.std.proofs.lemmas.Bool.{and_parts, and_from, or_parts, or_left, or_from, not-true, false_from_ne_true, or_right, or_cases}
use Rattle.redl_tree.specs.Model.Nodes.{Tag, Nodes, no_nodes, bytes, element, ◌⊕◌}
use Rattle.redl_tree.specs.Roles.Names.{is, is_any}
use Rattle.redl_tree.specs.Model.Kids.{only, without, some_element}
use Rattle.redl_tree.specs.Roles.Places.{is_quiet, is_open, within, prop_of, role, in_mark_props, in_row_props, in_cell_props}
use Rattle.redl_tree.specs.Roles.Kinds.{is_change}
use Rattle.redl_tree.specs.Decisions.Restored.{Rejected, rejected, after_change, present, restored, is_uncovered}
use Rattle.redl_tree.specs.Decisions.Pass.{pass}
use Rattle.redl_tree.specs.Rules.Tests.{Test, open_one, once, each_once, only_first, only_last}
use Rattle.redl_tree.specs.Rules.Sound.{below_change, test_4, test_5, test_6}
use Rattle.redl_tree.specs.declared.kinds.Prop.{Prop}
use Rattle.redl_tree.specs.declared.kinds.Prop.TheVariants.{Run, Para as ParaProp, Sect, Table, Except, Row as RowProp, Cell as CellProp}
use Rattle.redl_tree.specs.declared.kinds.Say.{Say}
use Rattle.redl_tree.proofs.Decisions.PassLaws.{each}
use Rattle.redl_tree.proofs.Roles.Named.{by_name}
use Rattle.redl_tree.proofs.Roles.Fits.{AllFit, true_false, open_∷, open_none_rejected}
use Rattle.redl_laws.proofs.Soundness.AlikeTags.{Like, like_quiet, like_prop, ordinary}
use Rattle.redl_laws.proofs.Soundness.Ancestors.{Came, kept, Para, Stood, banned, free3, came_open, change_came, mark_came, para_came, row_came, cell_came, implies_from, implies_of, by_prop, in_below}
use Rattle.redl_laws.proofs.Soundness.Walk.{Holds, Ground, Kept, NoMarkBelow, made, change_shut, change_name, change_parent, rejected_found, rejected_former, owner_of, props_owner, change_props, some-⊕}
use Rattle.redl_laws.proofs.Soundness.ShutLists.{rule_8_of, shut_pass}
use Rattle.redl_laws.proofs.Soundness.TopLaws.{first_none, add_if, count_named, count-⊕, count_none, From, Foreign, tops, sub_some, sub_last, sub_first, sub_once, sub_count, once_less, last_none, foreign_shut}

pub fits_of : (ext : Test) → (ancestors : List Tag) (nodes : Nodes) → Ground ext ancestors nodes → AllFit ancestors nodes
fits_of ext ancestors no_nodes g = tt
fits_of ext ancestors (bytes b rest) g = fits_of ext ancestors rest g
fits_of ext ancestors (element tag kids rest) g = (g.0.fits, fits_of ext (tag ∷ ancestors) kids g.1, fits_of ext ancestors rest g.2)

from_name : (name : String) → ordinary name ≡ true → From (is name) (is name)
from_name name o a b l e = sym (l.name name o) ∙ e

some_if : (n : Tag → Bool) (b : Bool) (x y : Nodes) → (b ≡ true → some_element n x ≡ false) → (b ≡ false → some_element n y ≡ false) → some_element n (if b then x else y) ≡ false
some_if n true x y p q = p refl
some_if n false x y p q = q refl

pub some-only : (n : Tag → Bool) (names : Tag → Bool) (xs : Nodes) → some_element n xs ≡ false → some_element n (only names xs) ≡ false
some-only n names no_nodes e = refl
some-only n names (bytes b rest) e = some-only n names rest e
some-only n names (element t k rest) e =
    let both = or_parts (n t) (some_element n rest) e in
    let ih = some-only n names rest both.1 in
    some_if n (names t) (element t k (only names rest)) (only names rest) (λ h. or_from (n t) _ both.0 ih) (λ h. ih)

pub some-without : (n : Tag → Bool) (names : Tag → Bool) (xs : Nodes) → some_element n xs ≡ false → some_element n (without names xs) ≡ false
some-without n names no_nodes e = refl
some-without n names (bytes b rest) e = some-without n names rest e
some-without n names (element t k rest) e =
    let both = or_parts (n t) (some_element n rest) e in
    let ih = some-without n names rest both.1 in
    some_if n (names t) (without names rest) (element t k (without names rest)) (λ h. ih) (λ h. or_from (n t) _ both.0 ih)

-- what is left out is not there
without_none : (n : Tag → Bool) (names : Tag → Bool) → ((t : Tag) → names t ≡ false → n t ≡ false) → (xs : Nodes) → some_element n (without names xs) ≡ false
without_none n names h no_nodes = refl
without_none n names h (bytes b rest) = without_none n names h rest
without_none n names h (element t k rest) =
    let ih = without_none n names h rest in
    some_if n (names t) (without names rest) (element t k (without names rest)) (λ e. ih) (λ e. or_from (n t) _ (h t e) ih)

-- what is kept by name is nothing else
only_none : (n : Tag → Bool) (names : Tag → Bool) → ((t : Tag) → names t ≡ true → n t ≡ false) → (xs : Nodes) → some_element n (only names xs) ≡ false
only_none n names h no_nodes = refl
only_none n names h (bytes b rest) = only_none n names h rest
only_none n names h (element t k rest) =
    let ih = only_none n names h rest in
    some_if n (names t) (element t k (only names rest)) (only names rest) (λ e. or_from (n t) _ (h t e) ih) (λ e. ih)

-- RULE 6

foreign_below : (name : String) → ((a : Tag) → is name a ≡ true → is_any banned a ≡ true) → Foreign (is name)
foreign_below name h ancestors a f o i = false_from_ne_true (is name a) (λ e. f.below (and_from _ _ (h a e) o) (in_below ancestors i))

pub foreign_inside : Foreign (is "sdtContent")
foreign_inside ancestors a f o i =
    false_from_ne_true (is "sdtContent" a) (λ e. f.inside (and_from _ _ (by_name (λ t. is_any ("rPr" ∷ "sdtContent" ∷ []) t ≡ true) "sdtContent" a e refl) o) i)

-- of an element among the content no change is rejected
pub made_open : (ext : Test) → (says : List Say) (old : List Tag) (a : Tag) (kids : Nodes) → is_open old ≡ true → is_quiet a ≡ false → Ground ext (a ∷ old) kids → made says old a kids ≡ pass says (a ∷ old) kids
made_open ext says old a kids o q g = ap (λ u. after_change old a u (pass says (a ∷ old) kids)) (open_none_rejected says (a ∷ old) kids (open_∷ a old q ∙ o) (fits_of ext (a ∷ old) kids g))

pass_once : (ext : Test) → (says : List Say) (name : String) → ordinary name ≡ true → Foreign (is name) → (ancestors : List Tag) (kids : Nodes) → Ground ext ancestors kids → once name kids ≡ true → once name (pass says ancestors kids) ≡ true
pass_once ext says name o fo ancestors kids g e =
    let t = tops ext says (is name) (from_name name o) fo ancestors kids g in
    sub_once name o t.middle (pass says ancestors kids) t.second (sub_once name o kids t.middle t.first e)

pass_first : (ext : Test) → (says : List Say) (name : String) → ordinary name ≡ true → Foreign (is name) → (ancestors : List Tag) (kids : Nodes) → Ground ext ancestors kids → only_first (is name) kids ≡ true → only_first (is name) (pass says ancestors kids) ≡ true
pass_first ext says name o fo ancestors kids g e =
    let t = tops ext says (is name) (from_name name o) fo ancestors kids g in
    sub_first name o t.middle (pass says ancestors kids) t.second (sub_first name o kids t.middle t.first e)

pass_last : (ext : Test) → (says : List Say) (name : String) → ordinary name ≡ true → Foreign (is name) → (ancestors : List Tag) (kids : Nodes) → Ground ext ancestors kids → only_last (is name) kids ≡ true → only_last (is name) (pass says ancestors kids) ≡ true
pass_last ext says name o fo ancestors kids g e =
    let t = tops ext says (is name) (from_name name o) fo ancestors kids g in
    sub_last (is name) (is name) (from_name name o) t.middle (pass says ancestors kids) t.second (sub_last (is name) (is name) (from_name name o) kids t.middle t.first e)

joined_first : (kids more : Nodes) → only_first (is "pPr") kids ≡ true → some_element (is "pPr") more ≡ false → only_first (is "pPr") (only (is "pPr") kids ⊕ more) ≡ true
joined_first no_nodes more e none = first_none "pPr" more none
joined_first (bytes b rest) more e none = joined_first rest more e none
joined_first (element t k rest) more e none =
    at (is "pPr" t) (some-⊕ (is "pPr") (only (is "pPr") rest) more (some-only (is "pPr") (is "pPr") rest (not-true (some_element (is "pPr") rest) e)) none)
  where
    at : (b : Bool) → some_element (is "pPr") (only (is "pPr") rest ⊕ more) ≡ false →
        only_first (is "pPr") ((if b then element t k (only (is "pPr") rest) else only (is "pPr") rest) ⊕ more) ≡ true
    at true h = ap not h
    at false h = first_none "pPr" (only (is "pPr") rest ⊕ more) h

-- the parts of rule 6
pub record Rule6 (ancestors : List Tag) (tag : Tag) (kids : Nodes) : Type 0 where
  pub para : open_one "p" ancestors tag ≡ true → only_first (is "pPr") kids ≡ true
  pub row : open_one "tr" ancestors tag ≡ true → once "trPr" kids ≡ true
  pub cell : open_one "tc" ancestors tag ≡ true → once "tcPr" kids ≡ true
  pub body : open_one "body" ancestors tag ≡ true → only_last (is "sectPr") kids ≡ true
  pub Control : open_one "sdt" ancestors tag ≡ true → once "sdtContent" kids ≡ true

pub rule_6_of : (ancestors : List Tag) (tag : Tag) (kids : Nodes) → test_6 ancestors tag kids ≡ true → Rule6 ancestors tag kids
rule_6_of ancestors tag kids e =
    let a = and_parts _ _ e in
    let b = and_parts _ _ a.0 in
    let c = and_parts _ _ b.0 in
    let d = and_parts _ _ c.0 in
    record { para = λ h. implies_of _ _ d.0 h; row = λ h. implies_of _ _ d.1 h; cell = λ h. implies_of _ _ c.1 h; body = λ h. implies_of _ _ b.1 h; Control = λ h. implies_of _ _ a.1 h }

pub rule_6_from : (ancestors : List Tag) (tag : Tag) (kids : Nodes) → Rule6 ancestors tag kids → test_6 ancestors tag kids ≡ true
rule_6_from ancestors tag kids r =
    and_from _ _ (and_from _ _ (and_from _ _ (and_from _ _
    (implies_from (open_one "p" ancestors tag) (only_first (is "pPr") kids) r.para)
    (implies_from (open_one "tr" ancestors tag) (once "trPr" kids) r.row))
    (implies_from (open_one "tc" ancestors tag) (once "tcPr" kids) r.cell))
    (implies_from (open_one "body" ancestors tag) (only_last (is "sectPr") kids) r.body))
    (implies_from (open_one "sdt" ancestors tag) (once "sdtContent" kids) r.Control)

pub open_came : (name : String) → ordinary name ≡ true → (old new : List Tag) (a b : Tag) → Came old new → Like a b → open_one name new b ≡ true → (is name a ≡ true) × (is_open old ≡ true)
open_came name o old new a b c l e =
    let both = and_parts (is name b) (is_open new) e in
    (sym (l.name name o) ∙ both.0, sym (came_open old new c) ∙ both.1)

pub no_p : {X : Type 0} (name : String) (ancestors : List Tag) (a : Tag) → is "p" a ≡ true → ((t : Tag) → is "p" t ≡ true → is name t ≡ false) → open_one name ancestors a ≡ true → X
no_p name ancestors a e h o = absurd (true_false (is name a) (and_parts (is name a) (is_open ancestors) o).0 (h a e))

para_6 : (ancestors : List Tag) (a : Tag) (kids : Nodes) → is "p" a ≡ true → (is_open ancestors ≡ true → only_first (is "pPr") kids ≡ true) → Rule6 ancestors a kids
para_6 ancestors a kids e h = record {
  para = λ o. h (and_parts (is "p" a) (is_open ancestors) o).1;
  row = λ o. no_p "tr" ancestors a e (λ t q. by_name (λ t. is "tr" t ≡ false) "p" t q refl) o;
  cell = λ o. no_p "tc" ancestors a e (λ t q. by_name (λ t. is "tc" t ≡ false) "p" t q refl) o;
  body = λ o. no_p "body" ancestors a e (λ t q. by_name (λ t. is "body" t ≡ false) "p" t q refl) o;
  Control = λ o. no_p "sdt" ancestors a e (λ t q. by_name (λ t. is "sdt" t ≡ false) "p" t q refl) o;
}

pub shut_one : {X : Type 0} (name : String) (ancestors : List Tag) (a : Tag) → is_open ancestors ≡ false → open_one name ancestors a ≡ true → X
shut_one name ancestors a s o = absurd (true_false (is_open ancestors) (and_parts (is name a) (is_open ancestors) o).1 s)

pub kept_6 : (ext : Test) → (says : List Say) → Kept ext says test_6
kept_6 ext says = record {
  stays = λ old new a b kids c pr mk h g s o. rule_6_from new b (made says old a kids) (stays_6 old new a b kids c o.like h g s.other);
  alone = λ old new a b kids c pr h g e o.
      rule_6_from new b (pass says (a ∷ old) kids) (para_6 new b (pass says (a ∷ old) kids) (o.like.name "p" refl ∙ e) (λ w.
      pass_first ext says "pPr" refl (foreign_below "pPr" (λ a e. by_name (λ t. is_any banned t ≡ true) "pPr" a e refl)) (a ∷ old) kids g
      ((rule_6_of old a kids h.rule_6).para (and_from (is "p" a) (is_open old) e (sym (came_open old new c) ∙ w)))));
  joined = λ new a cl kids more e h none.
      rule_6_from new (record a { close = cl }) (only (is "pPr") kids ⊕ more)
      (para_6 new (record a { close = cl }) (only (is "pPr") kids ⊕ more) e (λ o.
      joined_first kids more ((rule_6_of new a kids h).para (and_from (is "p" a) (is_open new) e o)) none));
  former = λ old new a kids c e h g m.
      let shut : is_open new ≡ false = came_open old new c ∙ change_shut old e in
      rule_6_from new a kids (record {
        para = λ o. shut_one "p" new a shut o;
        row = λ o. shut_one "tr" new a shut o;
        cell = λ o. shut_one "tc" new a shut o;
        body = λ o. shut_one "body" new a shut o;
        Control = λ o. shut_one "sdt" new a shut o;
      });
}
  where
    stays_6 : (old new : List Tag) (a b : Tag) (kids : Nodes) → Came old new → Like a b → Holds ext old a kids → Ground ext (a ∷ old) kids → is "p" a ≡ false → Rule6 new b (made says old a kids)
    stays_6 old new a b kids c l h g np = record {
      para = λ o. absurd (true_false (is "p" a) (open_came "p" refl old new a b c l o).0 np);
      row = λ o.
          let w = open_came "tr" refl old new a b c l o in
          rw (made_open ext says old a kids w.1 (by_name (λ t. is_quiet t ≡ false) "tr" a w.0 refl) g)
          (pass_once ext says "trPr" refl (foreign_below "trPr" (λ a e. by_name (λ t. is_any banned t ≡ true) "trPr" a e refl)) (a ∷ old) kids g
          ((rule_6_of old a kids h.rule_6).row (and_from (is "tr" a) (is_open old) w.0 w.1)));
      cell = λ o.
          let w = open_came "tc" refl old new a b c l o in
          rw (made_open ext says old a kids w.1 (by_name (λ t. is_quiet t ≡ false) "tc" a w.0 refl) g)
          (pass_once ext says "tcPr" refl (foreign_below "tcPr" (λ a e. by_name (λ t. is_any banned t ≡ true) "tcPr" a e refl)) (a ∷ old) kids g
          ((rule_6_of old a kids h.rule_6).cell (and_from (is "tc" a) (is_open old) w.0 w.1)));
      body = λ o.
          let w = open_came "body" refl old new a b c l o in
          rw (made_open ext says old a kids w.1 (by_name (λ t. is_quiet t ≡ false) "body" a w.0 refl) g)
          (pass_last ext says "sectPr" refl (foreign_below "sectPr" (λ a e. by_name (λ t. is_any banned t ≡ true) "sectPr" a e refl)) (a ∷ old) kids g
          ((rule_6_of old a kids h.rule_6).body (and_from (is "body" a) (is_open old) w.0 w.1)));
      Control = λ o.
          let w = open_came "sdt" refl old new a b c l o in
          rw (made_open ext says old a kids w.1 (by_name (λ t. is_quiet t ≡ false) "sdt" a w.0 refl) g)
          (pass_once ext says "sdtContent" refl foreign_inside (a ∷ old) kids g
          ((rule_6_of old a kids h.rule_6).Control (and_from (is "sdt" a) (is_open old) w.0 w.1)));
    }

-- RULE 4

-- below a change no element of a list is one, by its name
no_props : (ext : Test) → (ancestors : List Tag) (nodes : Nodes) → below_change ancestors ≡ true → Ground ext ancestors nodes → some_element (λ t. is_some (prop_of t)) nodes ≡ false
no_props ext ancestors no_nodes e g = refl
no_props ext ancestors (bytes b rest) e g = no_props ext ancestors rest e g
no_props ext ancestors (element t k rest) e g = or_from (is_some (prop_of t)) _ (rule_8_of ancestors t k g.0.rules.rule_8 e).prop (no_props ext ancestors rest e g.2)

some_less : (n m : Tag → Bool) → ((t : Tag) → m t ≡ true → n t ≡ true) → (xs : Nodes) → some_element n xs ≡ false → some_element m xs ≡ false
some_less n m h no_nodes e = refl
some_less n m h (bytes b rest) e = some_less n m h rest e
some_less n m h (element t k rest) e =
    let both = or_parts (n t) (some_element n rest) e in
    or_from (m t) _ (false_from_ne_true (m t) (λ w. true_false (n t) (h t w) both.0)) (some_less n m h rest both.1)

abbrev change_at : List Tag → Tag → Bool
change_at ancestors t = is_change (role ancestors t)

no_change_named : (ancestors : List Tag) (names : Tag → Bool) →
    ((t : Tag) → is_some (prop_of t) ≡ true → names t ≡ false) → (t : Tag) → names t ≡ true → change_at ancestors t ≡ false
no_change_named ancestors names h t e = false_from_ne_true (change_at ancestors t) (λ w. true_false (names t) e (h t (change_name ancestors t w)))

module _ (ext : Test) (ancestors old : List Tag) (ch : Tag) (below : below_change (ch ∷ old) ≡ true) where
  former_none : (former : Nodes) → ((former ≡ no_nodes) ⊎ ((f : Tag) × Ground ext (f ∷ ch ∷ old) former)) → some_element (change_at ancestors) former ≡ false
  former_none former (inl e) = rw e refl
  former_none former (inr (f, g)) =
      some_less (λ t. is_some (prop_of t)) (change_at ancestors) (λ t w. change_name ancestors t w) former
      (no_props ext (f ∷ ch ∷ old) former (or_right (change_at (ch ∷ old) f) (below_change (ch ∷ old)) below) g)

  -- a restored list holds no change
  restored_none : (prop : Prop) (current former : Nodes) → ((former ≡ no_nodes) ⊎ ((f : Tag) × Ground ext (f ∷ ch ∷ old) former)) →
      some_element (change_at ancestors) (restored prop current former) ≡ false
  restored_none Run current former g =
      some-⊕ (change_at ancestors) (only (is_uncovered Run) current) (without (is_uncovered Run) former)
      (only_none (change_at ancestors) (is_uncovered Run) (no_change_named ancestors (is_uncovered Run) (λ t e. by_prop (λ t. is_uncovered Run t ≡ false) t e (refl, (refl, (refl, (refl, (refl, (refl, (refl, tt))))))))) current)
      (some-without (change_at ancestors) (is_uncovered Run) former (former_none former g))
  restored_none ParaProp current former g =
      some-⊕ (change_at ancestors) (without (is_uncovered ParaProp) former) (only (is_uncovered ParaProp) current)
      (some-without (change_at ancestors) (is_uncovered ParaProp) former (former_none former g))
      (only_none (change_at ancestors) (is_uncovered ParaProp) (no_change_named ancestors (is_uncovered ParaProp) (λ t e. by_prop (λ t. is_uncovered ParaProp t ≡ false) t e (refl, (refl, (refl, (refl, (refl, (refl, (refl, tt))))))))) current)
  restored_none Sect current former g =
      some-⊕ (change_at ancestors) (only (is_uncovered Sect) current) (without (is_uncovered Sect) former)
      (only_none (change_at ancestors) (is_uncovered Sect) (no_change_named ancestors (is_uncovered Sect) (λ t e. by_prop (λ t. is_uncovered Sect t ≡ false) t e (refl, (refl, (refl, (refl, (refl, (refl, (refl, tt))))))))) current)
      (some-without (change_at ancestors) (is_uncovered Sect) former (former_none former g))
  restored_none Table current former g = former_none former g
  restored_none Except current former g = former_none former g
  restored_none RowProp current former g =
      some-⊕ (change_at ancestors) (without (is_uncovered RowProp) former) (only (is_uncovered RowProp) current)
      (some-without (change_at ancestors) (is_uncovered RowProp) former (former_none former g))
      (only_none (change_at ancestors) (is_uncovered RowProp) (no_change_named ancestors (is_uncovered RowProp) (λ t e. by_prop (λ t. is_uncovered RowProp t ≡ false) t e (refl, (refl, (refl, (refl, (refl, (refl, (refl, tt))))))))) current)
  restored_none CellProp current former g =
      some-⊕ (change_at ancestors) (without (is_uncovered CellProp) former) (only (is_uncovered CellProp) current)
      (some-without (change_at ancestors) (is_uncovered CellProp) former (former_none former g))
      (only_none (change_at ancestors) (is_uncovered CellProp) (no_change_named ancestors (is_uncovered CellProp) (λ t e. by_prop (λ t. is_uncovered CellProp t ≡ false) t e (refl, (refl, (refl, (refl, (refl, (refl, (refl, tt))))))))) current)

some_never : (n : Tag → Bool) → ((t : Tag) → n t ≡ false) → (xs : Nodes) → some_element n xs ≡ false
some_never n h no_nodes = refl
some_never n h (bytes b rest) = some_never n h rest
some_never n h (element t k rest) = or_from (n t) _ (h t) (some_never n h rest)

-- no kid of what is no property element is a change
loud_last : (ancestors : List Tag) (b : Tag) → is_quiet b ≡ false → (xs : Nodes) → only_last (change_at (b ∷ ancestors)) xs ≡ true
loud_last ancestors b q xs =
    last_none (change_at (b ∷ ancestors)) xs (some_never (change_at (b ∷ ancestors)) (λ t. false_from_ne_true (change_at (b ∷ ancestors) t) (λ w. true_false (is_quiet b) (change_parent ancestors b t w) q)) xs)

shut_head : (a : Tag) (old : List Tag) → is_quiet a ≡ true → is_open (a ∷ old) ≡ false
shut_head a old q = rw q refl

from_change : (old new : List Tag) → Came old new → below_change old ≡ false → From (change_at old) (change_at new)
from_change old new c n a b l e = at (change_came old new a b c l e)
  where
    at : Stood old (is_change (role old a)) → is_change (role old a) ≡ true
    at (inl s) = s
    at (inr s) = absurd (true_false (below_change old) s n)

from_props : (ancestors : List Tag) → From (λ t. is_some (prop_of t)) (change_at ancestors)
from_props ancestors a b l e = ap is_some (sym (like_prop a b l)) ∙ change_name ancestors b e

stays_4 : (ext : Test) → (says : List Say) (old new : List Tag) (a b : Tag) (kids : Nodes) → Came old new → Para old new a → Holds ext old a kids → Ground ext (a ∷ old) kids → Like a b →
    only_last (change_at (b ∷ new)) (made says old a kids) ≡ true
stays_4 ext says old new a b kids c pr h g l = at (is_quiet a) refl
  where
    c' : Came (a ∷ old) (b ∷ new)
    c' = kept a b c l (free3 old a kids h.rule_3) pr

    of_undone : is_quiet a ≡ true → (u : Option Rejected) → rejected says kids ≡ u → (x : Bool) → below_change (a ∷ old) ≡ x →
        only_last (change_at (b ∷ new)) (after_change old a u (pass says (a ∷ old) kids)) ≡ true
    of_undone q (Some u) e x w =
        let f = rejected_found ext says (a ∷ old) kids u g e in
        last_none (change_at (b ∷ new)) (restored u.prop (present old a (pass says (a ∷ old) kids)) u.former)
        (restored_none ext (b ∷ new) (a ∷ old) f.change (or_left (is_change (role (a ∷ old) f.change)) (below_change (a ∷ old)) (ap is_change f.role_is)) u.prop
        (present old a (pass says (a ∷ old) kids)) u.former (rejected_former ext (a ∷ old) u f))
    of_undone q None e true w =
        rw (shut_pass says (a ∷ old) kids (shut_head a old q))
        (last_none (change_at (b ∷ new)) (each says (a ∷ old) kids)
        (sub_some (λ t. is_some (prop_of t)) (change_at (b ∷ new)) (from_props (b ∷ new)) kids (each says (a ∷ old) kids)
        (foreign_shut ext says (change_at (b ∷ new)) (change_at (b ∷ new)) (a ∷ old) kids (shut_head a old q) g) (no_props ext (a ∷ old) kids w g)))
    of_undone q None e false w =
        rw (shut_pass says (a ∷ old) kids (shut_head a old q))
        (sub_last (change_at (a ∷ old)) (change_at (b ∷ new)) (from_change (a ∷ old) (b ∷ new) c' w) kids (each says (a ∷ old) kids)
        (foreign_shut ext says (change_at (b ∷ new)) (change_at (b ∷ new)) (a ∷ old) kids (shut_head a old q) g) h.rule_4)

    at : (q : Bool) → is_quiet a ≡ q → only_last (change_at (b ∷ new)) (made says old a kids) ≡ true
    at false e = loud_last new b (like_quiet a b l ∙ e) (made says old a kids)
    at true e = of_undone e (rejected says kids) refl (below_change (a ∷ old)) refl

loud_p : (a : Tag) → is "p" a ≡ true → is_quiet a ≡ false
loud_p a e = by_name (λ t. is_quiet t ≡ false) "p" a e refl

pub kept_4 : (ext : Test) → (says : List Say) → Kept ext says test_4
kept_4 ext says = record {
  stays = λ old new a b kids c pr mk h g s o. stays_4 ext says old new a b kids c pr h g o.like;
  alone = λ old new a b kids c pr h g e o. loud_last new b (loud_p b (o.like.name "p" refl ∙ e)) (pass says (a ∷ old) kids);
  joined = λ new a cl kids more e h none. loud_last new (record a { close = cl }) (loud_p a e) (only (is "pPr") kids ⊕ more);
  former = λ old new a kids c e h g m.
      last_none (change_at (a ∷ new)) kids
      (some_less (λ t. is_some (prop_of t)) (change_at (a ∷ new)) (λ t w. change_name (a ∷ new) t w) kids
      (no_props ext (a ∷ old) kids (or_right (is_change (role old a)) (below_change old) e) g));
}

-- RULE 5

-- the parts of rule 5
pub record Rule5 (ancestors : List Tag) (tag : Tag) (kids : Nodes) : Type 0 where
  pub para : (is "pPr" tag && within ("p" ∷ []) ancestors) ≡ true → once "rPr" kids ≡ true
  pub mark : in_mark_props (tag ∷ ancestors) ≡ true → each_once ("ins" ∷ "del" ∷ "moveFrom" ∷ "moveTo" ∷ []) kids ≡ true
  pub row : in_row_props (tag ∷ ancestors) ≡ true → each_once ("ins" ∷ "del" ∷ []) kids ≡ true
  pub cell : in_cell_props (tag ∷ ancestors) ≡ true → each_once ("cellIns" ∷ "cellDel" ∷ []) kids ≡ true

pub rule_5_of : (ancestors : List Tag) (tag : Tag) (kids : Nodes) → test_5 ancestors tag kids ≡ true → Rule5 ancestors tag kids
rule_5_of ancestors tag kids e =
    let a = and_parts _ _ e in
    let b = and_parts _ _ a.0 in
    let c = and_parts _ _ b.0 in
    record { para = λ h. implies_of _ _ c.0 h; mark = λ h. implies_of _ _ c.1 h; row = λ h. implies_of _ _ b.1 h; cell = λ h. implies_of _ _ a.1 h }

pub rule_5_from : (ancestors : List Tag) (tag : Tag) (kids : Nodes) → Rule5 ancestors tag kids → test_5 ancestors tag kids ≡ true
rule_5_from ancestors tag kids r =
    and_from _ _ (and_from _ _ (and_from _ _
    (implies_from (is "pPr" tag && within ("p" ∷ []) ancestors) (once "rPr" kids) r.para)
    (implies_from (in_mark_props (tag ∷ ancestors)) (each_once ("ins" ∷ "del" ∷ "moveFrom" ∷ "moveTo" ∷ []) kids) r.mark))
    (implies_from (in_row_props (tag ∷ ancestors)) (each_once ("ins" ∷ "del" ∷ []) kids) r.row))
    (implies_from (in_cell_props (tag ∷ ancestors)) (each_once ("cellIns" ∷ "cellDel" ∷ []) kids) r.cell)

count_if : (name : String) (c b : Bool) (t : Tag) (k x : Nodes) (n : ℕ) → is name t ≡ b → count_named name x ≤ n →
    count_named name (if c then element t k x else x) ≤ add_if b n
count_if name true true t k x n e h = ap_le (is name t) e
  where
    ap_le : (d : Bool) → d ≡ true → add_if d (count_named name x) ≤ suc n
    ap_le true e = omega arith
    ap_le false e = absurd (true≢false (sym e))
count_if name true false t k x n e h = ap_le (is name t) e
  where
    ap_le : (d : Bool) → d ≡ false → add_if d (count_named name x) ≤ n
    ap_le true e = absurd (true≢false e)
    ap_le false e = h
count_if name false true t k x n e h = omega arith
count_if name false false t k x n e h = h

count-only : (name : String) (names : Tag → Bool) (xs : Nodes) → count_named name (only names xs) ≤ count_named name xs
count-only name names no_nodes = omega arith
count-only name names (bytes b rest) = count-only name names rest
count-only name names (element t k rest) = count_if name (names t) (is name t) t k (only names rest) (count_named name rest) refl (count-only name names rest)

count_swap : (name : String) (c b : Bool) (t : Tag) (k x : Nodes) (n : ℕ) → is name t ≡ b → count_named name x ≤ n →
    count_named name (if c then x else element t k x) ≤ add_if b n
count_swap name true b t k x n e h = count_if name false b t k x n e h
count_swap name false b t k x n e h = count_if name true b t k x n e h

count-without : (name : String) (names : Tag → Bool) (xs : Nodes) → count_named name (without names xs) ≤ count_named name xs
count-without name names no_nodes = omega arith
count-without name names (bytes b rest) = count-without name names rest
count-without name names (element t k rest) = count_swap name (names t) (is name t) t k (without names rest) (count_named name rest) refl (count-without name names rest)

-- kept by name, and left out of the former ones by name
count_current : (name : String) (names : Tag → Bool) → ((t : Tag) → names t ≡ false → is name t ≡ false) → (current former : Nodes) →
    count_named name (only names current ⊕ without names former) ≤ count_named name current
count_current name names h current former =
    let a = count-⊕ name (only names current) (without names former) in
    let b = count-only name names current in
    let c = count_none name (without names former) (without_none (is name) names h former) in
    omega arith

count_former : (name : String) (names : Tag → Bool) → ((t : Tag) → names t ≡ false → is name t ≡ false) → (current former : Nodes) →
    count_named name (without names former ⊕ only names current) ≤ count_named name current
count_former name names h current former =
    let a = count-⊕ name (without names former) (only names current) in
    let b = count-only name names current in
    let c = count_none name (without names former) (without_none (is name) names h former) in
    omega arith

count_present : (name : String) (old : List Tag) (a : Tag) (xs : Nodes) → count_named name (present old a xs) ≤ count_named name xs
count_present name old a xs = at (is "rPr" a && not (within ("pPr" ∷ "p" ∷ []) old))
  where
    at : (b : Bool) → count_named name (if b then without (is_uncovered Run) xs else xs) ≤ count_named name xs
    at true = count-without name (is_uncovered Run) xs
    at false = omega arith

-- a name of which no change of these properties speaks
abbrev Spares : Prop → String → Type 0
Spares prop name = (t : Tag) → is_uncovered prop t ≡ false → is name t ≡ false

restored_count : (prop : Prop) (name : String) → Spares prop name → (current former : Nodes) → count_named name (restored prop current former) ≤ count_named name current
restored_count Run name h current former = count_current name (is_uncovered Run) h current former
restored_count ParaProp name h current former = count_former name (is_uncovered ParaProp) h current former
restored_count Sect name h current former = count_current name (is_uncovered Sect) h current former
restored_count Table name h current former =
    let c = count_none name former (some_never (is name) (λ t. h t refl) former) in omega arith
restored_count Except name h current former =
    let c = count_none name former (some_never (is name) (λ t. h t refl) former) in omega arith
restored_count RowProp name h current former = count_former name (is_uncovered RowProp) h current former
restored_count CellProp name h current former = count_former name (is_uncovered CellProp) h current former

spares_rPr : (name : String) → Spares Run name → (prop : Prop) (a : Tag) → is (owner_of prop) a ≡ true → is "rPr" a ≡ true → Spares prop name
spares_rPr name h Run a e o = h
spares_rPr name h ParaProp a e o = absurd (true_false (is "rPr" a) o (by_name (λ t. is "rPr" t ≡ false) "pPr" a e refl))
spares_rPr name h Sect a e o = absurd (true_false (is "rPr" a) o (by_name (λ t. is "rPr" t ≡ false) "sectPr" a e refl))
spares_rPr name h Table a e o = absurd (true_false (is "rPr" a) o (by_name (λ t. is "rPr" t ≡ false) "tblPr" a e refl))
spares_rPr name h Except a e o = absurd (true_false (is "rPr" a) o (by_name (λ t. is "rPr" t ≡ false) "tblPrEx" a e refl))
spares_rPr name h RowProp a e o = absurd (true_false (is "rPr" a) o (by_name (λ t. is "rPr" t ≡ false) "trPr" a e refl))
spares_rPr name h CellProp a e o = absurd (true_false (is "rPr" a) o (by_name (λ t. is "rPr" t ≡ false) "tcPr" a e refl))

spares_pPr : (name : String) → Spares ParaProp name → (prop : Prop) (a : Tag) → is (owner_of prop) a ≡ true → is "pPr" a ≡ true → Spares prop name
spares_pPr name h Run a e o = absurd (true_false (is "pPr" a) o (by_name (λ t. is "pPr" t ≡ false) "rPr" a e refl))
spares_pPr name h ParaProp a e o = h
spares_pPr name h Sect a e o = absurd (true_false (is "pPr" a) o (by_name (λ t. is "pPr" t ≡ false) "sectPr" a e refl))
spares_pPr name h Table a e o = absurd (true_false (is "pPr" a) o (by_name (λ t. is "pPr" t ≡ false) "tblPr" a e refl))
spares_pPr name h Except a e o = absurd (true_false (is "pPr" a) o (by_name (λ t. is "pPr" t ≡ false) "tblPrEx" a e refl))
spares_pPr name h RowProp a e o = absurd (true_false (is "pPr" a) o (by_name (λ t. is "pPr" t ≡ false) "trPr" a e refl))
spares_pPr name h CellProp a e o = absurd (true_false (is "pPr" a) o (by_name (λ t. is "pPr" t ≡ false) "tcPr" a e refl))

spares_trPr : (name : String) → Spares RowProp name → (prop : Prop) (a : Tag) → is (owner_of prop) a ≡ true → is "trPr" a ≡ true → Spares prop name
spares_trPr name h Run a e o = absurd (true_false (is "trPr" a) o (by_name (λ t. is "trPr" t ≡ false) "rPr" a e refl))
spares_trPr name h ParaProp a e o = absurd (true_false (is "trPr" a) o (by_name (λ t. is "trPr" t ≡ false) "pPr" a e refl))
spares_trPr name h Sect a e o = absurd (true_false (is "trPr" a) o (by_name (λ t. is "trPr" t ≡ false) "sectPr" a e refl))
spares_trPr name h Table a e o = absurd (true_false (is "trPr" a) o (by_name (λ t. is "trPr" t ≡ false) "tblPr" a e refl))
spares_trPr name h Except a e o = absurd (true_false (is "trPr" a) o (by_name (λ t. is "trPr" t ≡ false) "tblPrEx" a e refl))
spares_trPr name h RowProp a e o = h
spares_trPr name h CellProp a e o = absurd (true_false (is "trPr" a) o (by_name (λ t. is "trPr" t ≡ false) "tcPr" a e refl))

spares_tcPr : (name : String) → Spares CellProp name → (prop : Prop) (a : Tag) → is (owner_of prop) a ≡ true → is "tcPr" a ≡ true → Spares prop name
spares_tcPr name h Run a e o = absurd (true_false (is "tcPr" a) o (by_name (λ t. is "tcPr" t ≡ false) "rPr" a e refl))
spares_tcPr name h ParaProp a e o = absurd (true_false (is "tcPr" a) o (by_name (λ t. is "tcPr" t ≡ false) "pPr" a e refl))
spares_tcPr name h Sect a e o = absurd (true_false (is "tcPr" a) o (by_name (λ t. is "tcPr" t ≡ false) "sectPr" a e refl))
spares_tcPr name h Table a e o = absurd (true_false (is "tcPr" a) o (by_name (λ t. is "tcPr" t ≡ false) "tblPr" a e refl))
spares_tcPr name h Except a e o = absurd (true_false (is "tcPr" a) o (by_name (λ t. is "tcPr" t ≡ false) "tblPrEx" a e refl))
spares_tcPr name h RowProp a e o = absurd (true_false (is "tcPr" a) o (by_name (λ t. is "tcPr" t ≡ false) "trPr" a e refl))
spares_tcPr name h CellProp a e o = h

-- the kids of property elements: no name that former properties don't speak of stands there more often
made_count : (ext : Test) → (says : List Say) (old : List Tag) (a : Tag) (kids : Nodes) (name : String) → ordinary name ≡ true → is_quiet a ≡ true → Ground ext (a ∷ old) kids →
    ((prop : Prop) → is (owner_of prop) a ≡ true → Spares prop name) → count_named name (made says old a kids) ≤ count_named name kids
made_count ext says old a kids name o q g sp = at (rejected says kids) refl
  where
    base : count_named name (pass says (a ∷ old) kids) ≤ count_named name kids
    base = rw (shut_pass says (a ∷ old) kids (shut_head a old q)) (sub_count name o kids (each says (a ∷ old) kids) (foreign_shut ext says (is name) (is name) (a ∷ old) kids (shut_head a old q) g))

    at : (u : Option Rejected) → rejected says kids ≡ u → count_named name (after_change old a u (pass says (a ∷ old) kids)) ≤ count_named name kids
    at None e = base
    at (Some u) e =
        let f = rejected_found ext says (a ∷ old) kids u g e in
        let w = sp u.prop (props_owner u.prop a old (change_props (a ∷ old) f.change u.prop f.role_is)) in
        let x = restored_count u.prop name w (present old a (pass says (a ∷ old) kids)) u.former in
        let y = count_present name old a (pass says (a ∷ old) kids) in
        let z = base in
        omega arith

abbrev AllLess : List String → Nodes → Nodes → Type 0
AllLess [] xs ys = Unit {0}
AllLess (n ∷ ns) xs ys = (count_named n ys ≤ count_named n xs) × AllLess ns xs ys

each_less : (names : List String) (xs ys : Nodes) → AllLess names xs ys → each_once names xs ≡ true → each_once names ys ≡ true
each_less [] xs ys h e = refl
each_less (n ∷ ns) xs ys h e =
    let both = and_parts (once n xs) (each_once ns xs) e in
    and_from _ _ (once_less n xs ys h.0 both.0) (each_less ns xs ys h.1 both.1)

shut_within : (name : String) → ((t : Tag) → is name t ≡ true → is_quiet t ≡ false) → (ancestors : List Tag) → is_open ancestors ≡ false → within (name ∷ []) ancestors ≡ false
shut_within name h [] e = refl
shut_within name h (t ∷ ancestors) e =
    false_from_ne_true (is name t && is_open ancestors) (λ w.
    let both = and_parts (is name t) (is_open ancestors) w in
    true≢false (sym (open_∷ t ancestors (h t both.0) ∙ both.1) ∙ e))

head_change : {X : Type 0} (name : String) (old : List Tag) (a : Tag) → is name a ≡ true → ((t : Tag) → is_some (prop_of t) ≡ true → is name t ≡ false) → is_change (role old a) ≡ true → X
head_change name old a e h r = absurd (true_false (is name a) e (h a (change_name old a r)))

no_five : (ancestors : List Tag) (a : Tag) (kids : Nodes) → is "pPr" a ≡ false → is "rPr" a ≡ false → is "trPr" a ≡ false → is "tcPr" a ≡ false → Rule5 ancestors a kids
no_five ancestors a kids p q r t = record {
  para = λ o. absurd (true_false (is "pPr" a) (and_parts (is "pPr" a) (within ("p" ∷ []) ancestors) o).0 p);
  mark = λ o. absurd (true_false (is "rPr" a) (and_parts (is "rPr" a) (within ("pPr" ∷ "p" ∷ []) ancestors) o).0 q);
  row = λ o. absurd (true_false (is "trPr" a) (and_parts (is "trPr" a) (within ("tr" ∷ []) ancestors) o).0 r);
  cell = λ o. absurd (true_false (is "tcPr" a) (and_parts (is "tcPr" a) (within ("tc" ∷ []) ancestors) o).0 t);
}

p_five : (ancestors : List Tag) (a : Tag) (kids : Nodes) → is "p" a ≡ true → Rule5 ancestors a kids
p_five ancestors a kids e =
    no_five ancestors a kids (by_name (λ t. is "pPr" t ≡ false) "p" a e refl) (by_name (λ t. is "rPr" t ≡ false) "p" a e refl)
    (by_name (λ t. is "trPr" t ≡ false) "p" a e refl) (by_name (λ t. is "tcPr" t ≡ false) "p" a e refl)

stood_or_not : {X : Type 0} (old : List Tag) (a : Tag) (b : Bool) → Stood (a ∷ old) b → (b ≡ true → X) → (is_change (role old a) ≡ true → X) → (below_change old ≡ true → X) → X
stood_or_not old a b (inl s) f g h = f s
stood_or_not old a b (inr s) f g h = ⊎_elim g h (or_cases (is_change (role old a)) (below_change old) s)

stays_5 : (ext : Test) → (says : List Say) (old new : List Tag) (a b : Tag) (kids : Nodes) → Came old new → Para old new a → NoMarkBelow old new → Holds ext old a kids → Ground ext (a ∷ old) kids → Like a b →
    Rule5 new b (made says old a kids)
stays_5 ext says old new a b kids c pr mk h g l = record {
  para = λ o.
      let both = and_parts (is "pPr" b) (within ("p" ∷ []) new) o in
      let e : is "pPr" a ≡ true = sym (l.name "pPr" refl) ∙ both.0 in
      stood_or_not old a (within ("pPr" ∷ "p" ∷ []) (a ∷ old)) (para_came (a ∷ old) (b ∷ new) c' o)
      (λ s. once_less "rPr" kids (made says old a kids)
      (made_count ext says old a kids "rPr" refl (by_name (λ t. is_quiet t ≡ true) "pPr" a e refl) g
      (λ prop w. spares_pPr "rPr" (λ t k. (or_parts (is "rPr" t) _ k).0) prop a w e))
      (r.para s))
      (head_change "pPr" old a e (λ t w. by_prop (λ t. is "pPr" t ≡ false) t w (refl, (refl, (refl, (refl, (refl, (refl, (refl, tt)))))))))
      (λ w. absurd (true_false (within ("p" ∷ []) new) both.1 (shut_within "p" (λ t e. by_name (λ t. is_quiet t ≡ false) "p" t e refl) new (came_open old new c ∙ change_shut old w))));
  mark = λ o.
      let both = and_parts (is "rPr" b) (within ("pPr" ∷ "p" ∷ []) new) o in
      let e : is "rPr" a ≡ true = sym (l.name "rPr" refl) ∙ both.0 in
      let q : is_quiet a ≡ true = by_name (λ t. is_quiet t ≡ true) "rPr" a e refl in
      stood_or_not old a (in_mark_props (a ∷ old)) (mark_came (a ∷ old) (b ∷ new) c' o)
      (λ s. each_less ("ins" ∷ "del" ∷ "moveFrom" ∷ "moveTo" ∷ []) kids (made says old a kids) (
        made_count ext says old a kids "ins" refl q g (λ prop w. spares_rPr "ins" (λ t k. (or_parts (is "ins" t) _ k).0) prop a w e),
        (
          made_count ext says old a kids "del" refl q g (λ prop w. spares_rPr "del" (λ t k. (or_parts (is "del" t) _ (or_parts (is "ins" t) _ k).1).0) prop a w e),
          (
            made_count ext says old a kids "moveFrom" refl q g (λ prop w. spares_rPr "moveFrom" (λ t k. (or_parts (is "moveFrom" t) _ (or_parts (is "del" t) _ (or_parts (is "ins" t) _ k).1).1).0) prop a w e),
            (made_count ext says old a kids "moveTo" refl q g (λ prop w. spares_rPr "moveTo" (λ t k. (or_parts (is "moveTo" t) _ (or_parts (is "moveFrom" t) _ (or_parts (is "del" t) _ (or_parts (is "ins" t) _ k).1).1).1).0) prop a w e), tt),
          ),
        ),
      )
      (r.mark s))
      (head_change "rPr" old a e (λ t w. by_prop (λ t. is "rPr" t ≡ false) t w (refl, (refl, (refl, (refl, (refl, (refl, (refl, tt)))))))))
      (λ w. absurd (true_false (within ("pPr" ∷ "p" ∷ []) new) both.1 (mk w)));
  row = λ o.
      let both = and_parts (is "trPr" b) (within ("tr" ∷ []) new) o in
      let e : is "trPr" a ≡ true = sym (l.name "trPr" refl) ∙ both.0 in
      let q : is_quiet a ≡ true = by_name (λ t. is_quiet t ≡ true) "trPr" a e refl in
      stood_or_not old a (in_row_props (a ∷ old)) (row_came (a ∷ old) (b ∷ new) c' o)
      (λ s. each_less ("ins" ∷ "del" ∷ []) kids (made says old a kids) (
        made_count ext says old a kids "ins" refl q g (λ prop w. spares_trPr "ins" (λ t k. (or_parts (is "ins" t) _ k).0) prop a w e),
        (made_count ext says old a kids "del" refl q g (λ prop w. spares_trPr "del" (λ t k. (or_parts (is "del" t) _ (or_parts (is "ins" t) _ k).1).0) prop a w e), tt),
      )
      (r.row s))
      (head_change "trPr" old a e (λ t w. by_prop (λ t. is "trPr" t ≡ false) t w (refl, (refl, (refl, (refl, (refl, (refl, (refl, tt)))))))))
      (λ w. absurd (true_false (within ("tr" ∷ []) new) both.1 (shut_within "tr" (λ t e. by_name (λ t. is_quiet t ≡ false) "tr" t e refl) new (came_open old new c ∙ change_shut old w))));
  cell = λ o.
      let both = and_parts (is "tcPr" b) (within ("tc" ∷ []) new) o in
      let e : is "tcPr" a ≡ true = sym (l.name "tcPr" refl) ∙ both.0 in
      let q : is_quiet a ≡ true = by_name (λ t. is_quiet t ≡ true) "tcPr" a e refl in
      stood_or_not old a (in_cell_props (a ∷ old)) (cell_came (a ∷ old) (b ∷ new) c' o)
      (λ s. each_less ("cellIns" ∷ "cellDel" ∷ []) kids (made says old a kids) (
        made_count ext says old a kids "cellIns" refl q g (λ prop w. spares_tcPr "cellIns" (λ t k. (or_parts (is "cellIns" t) _ k).0) prop a w e),
        (made_count ext says old a kids "cellDel" refl q g (λ prop w. spares_tcPr "cellDel" (λ t k. (or_parts (is "cellDel" t) _ (or_parts (is "cellIns" t) _ k).1).0) prop a w e), tt),
      )
      (r.cell s))
      (head_change "tcPr" old a e (λ t w. by_prop (λ t. is "tcPr" t ≡ false) t w (refl, (refl, (refl, (refl, (refl, (refl, (refl, tt)))))))))
      (λ w. absurd (true_false (within ("tc" ∷ []) new) both.1 (shut_within "tc" (λ t e. by_name (λ t. is_quiet t ≡ false) "tc" t e refl) new (came_open old new c ∙ change_shut old w))));
}
  where
    c' : Came (a ∷ old) (b ∷ new)
    c' = kept a b c l (free3 old a kids h.rule_3) pr

    r : Rule5 old a kids
    r = rule_5_of old a kids h.rule_5

pub kept_5 : (ext : Test) → (says : List Say) → Kept ext says test_5
kept_5 ext says = record {
  stays = λ old new a b kids c pr mk h g s o. rule_5_from new b (made says old a kids) (stays_5 ext says old new a b kids c pr mk h g o.like);
  alone = λ old new a b kids c pr h g e o. rule_5_from new b (pass says (a ∷ old) kids) (p_five new b (pass says (a ∷ old) kids) (o.like.name "p" refl ∙ e));
  joined = λ new a cl kids more e h none. rule_5_from new (record a { close = cl }) (only (is "pPr") kids ⊕ more) (p_five new (record a { close = cl }) (only (is "pPr") kids ⊕ more) e);
  former = λ old new a kids c e h g m.
      let shut : is_open new ≡ false = came_open old new c ∙ change_shut old e in
      rule_5_from new a kids (record {
        para = λ o. absurd (true_false (within ("p" ∷ []) new) (and_parts (is "pPr" a) (within ("p" ∷ []) new) o).1 (shut_within "p" (λ t e. by_name (λ t. is_quiet t ≡ false) "p" t e refl) new shut));
        mark = λ o. absurd (true_false _ o m);
        row = λ o. absurd (true_false (within ("tr" ∷ []) new) (and_parts (is "trPr" a) (within ("tr" ∷ []) new) o).1 (shut_within "tr" (λ t e. by_name (λ t. is_quiet t ≡ false) "tr" t e refl) new shut));
        cell = λ o. absurd (true_false (within ("tc" ∷ []) new) (and_parts (is "tcPr" a) (within ("tc" ∷ []) new) o).1 (shut_within "tc" (λ t e. by_name (λ t. is_quiet t ≡ false) "tc" t e refl) new shut));
      });
}
