-- The one induction over the pass: a test holds of all elements of a passed story where it is kept at each kind of step.
use Prim.Native.String.{String}
use Rattle.std.proofs.Common.{◌≡◌, ℕ, List, [], ◌∷◌, Bool, true, false, ◌&&◌, ◌||◌, not, ◌⊎◌, inl, inr, Option, Some, None, is_some, refl, sym, ap, ◌∙◌, true≢false, if◌then◌else◌}
use Rattle.std.proofs.lemmas.Bool.{and_parts, and_from, or_parts, or_from, and_right, and_left, or_cases, false_from_ne_true, or_right}
use Rattle.redl_tree.specs.Model.Nodes.{Tag, Nodes, no_nodes, bytes, element, ◌⊕◌}
use Rattle.redl_tree.specs.Roles.Names.{named, is, is_any}
use Rattle.redl_tree.specs.Model.Kids.{only, without, some_element, has_element}
use Rattle.redl_tree.specs.Roles.Places.{is_quiet, is_open, within, trace_of, prop_of, props_name, role, in_props, in_run_owner, in_run_props, in_mark_props, placed, first_role}
use Rattle.redl_tree.specs.Roles.Lists.{is_thick}
use Rattle.redl_tree.specs.Roles.Kinds.{is_content, is_change, is_restore}
use Rattle.redl_tree.specs.Decisions.Fates.{fate_of, renamed}
use Rattle.redl_tree.specs.Decisions.Restored.{Rejected, rejected, rejected_as, after_change, present, restored, former_kids, is_uncovered}
use Rattle.redl_tree.specs.Decisions.Tables.{goes_at, para_is_cut}
use Rattle.redl_tree.specs.Decisions.Groups.{GroupPiece, para, thin, thick, has_thick, joins as joins_piece, taken, ended, joined_tag, joined_kids, unjoined_para, given, held_by, grouped_from}
use Rattle.redl_tree.specs.Decisions.Pass.{by_fate, kept_kids, element_pass, is_block_para, pieces, pass}
use Rattle.redl_tree.specs.Rules.Tests.{Test, everywhere}
use Rattle.redl_tree.specs.Rules.Sound.{test_1, test_2, test_4, test_5, test_6, test_8, below_change}
use Rattle.redl_tree.specs.declared.kinds.Prop.{Prop}
use Rattle.redl_tree.specs.declared.kinds.Prop.TheVariants.{Run, Para as ParaProp, Sect, Table, Except, Row as RowProp, Cell as CellProp}
use Rattle.redl_tree.specs.declared.kinds.Kind.{Kind}
use Rattle.redl_tree.specs.declared.kinds.Kind.TheVariants.{Plain, Content, Mark, Row, Cell, Change, Marker}
use Rattle.redl_tree.specs.declared.kinds.Say.{Say}
use Rattle.redl_tree.specs.declared.kinds.Fate.{Fate}
use Rattle.redl_tree.specs.declared.kinds.Fate.TheVariants.{Leave, Free, Cut, Clear, Restore, Drop}
use Rattle.redl_tree.specs.Model.Nodes.{Close}
use Rattle.redl_tree.proofs.Model.Build.{one}
use Rattle.redl_tree.proofs.Roles.Named.{by_name, by_trace}
use Rattle.redl_tree.proofs.Roles.Fits.{Fits, open_∷, open_tail, true_false, not_props}
use Rattle.redl_laws.proofs.Soundness.AlikeTags.{Like, Own, ordinary, like_self, like_p, own_renamed}
use Rattle.redl_laws.proofs.Soundness.Ancestors.{Came, kept, freed, restored as restored_came, joins, Para, Free3, free3, kid_3, banned, came_open, in_below, by_prop, content_role, change_role, change_first, at_props, restored_change}
use Rattle.redl_tree.proofs.Decisions.PassLaws.{block_p}

-- What the rules say of an element of the original. `ext` is one rule more, of attributes.
pub record Holds (ext : Test) (ancestors : List Tag) (tag : Tag) (kids : Nodes) : Type 0 where
  pub rule_1 : test_1 ancestors tag kids ≡ true
  pub rule_2 : test_2 ancestors tag kids ≡ true
  pub rule_3 : kid_3 ancestors tag kids ≡ true
  pub rule_4 : test_4 ancestors tag kids ≡ true
  pub rule_5 : test_5 ancestors tag kids ≡ true
  pub rule_6 : test_6 ancestors tag kids ≡ true
  pub rule_8 : test_8 ancestors tag kids ≡ true
  pub own : ext ancestors tag kids ≡ true

-- all that is known of an element below the root
pub record Stands (ext : Test) (ancestors : List Tag) (tag : Tag) (kids : Nodes) : Type 0 where
  pub fits : Fits ancestors tag
  pub rules : Holds ext ancestors tag kids

-- each element of a list and below it stands as it has to
abbrev pub Ground : (ext : Test) → List Tag → Nodes → Type 0
Ground ext ancestors no_nodes = Unit {0}
Ground ext ancestors (bytes b rest) = Ground ext ancestors rest
Ground ext ancestors (element tag kids rest) = Stands ext ancestors tag kids × Ground ext (tag ∷ ancestors) kids × Ground ext ancestors rest

-- Tests and lists

-- a test that holds everywhere in two lists does so in both together
pub everywhere-⊕ : (test : Test) (ancestors : List Tag) (xs ys : Nodes) → everywhere test ancestors xs ≡ true → everywhere test ancestors ys ≡ true →
    everywhere test ancestors (xs ⊕ ys) ≡ true
everywhere-⊕ test ancestors no_nodes ys p q = q
everywhere-⊕ test ancestors (bytes b rest) ys p q = everywhere-⊕ test ancestors rest ys p q
everywhere-⊕ test ancestors (element tag kids rest) ys p q =
    let x = and_parts (test ancestors tag kids && everywhere test (tag ∷ ancestors) kids) (everywhere test ancestors rest) p in
    and_from _ _ x.0 (everywhere-⊕ test ancestors rest ys x.1 q)

-- and in a list of one element, if it does so there and below
pub everywhere-one : (test : Test) (ancestors : List Tag) (tag : Tag) (kids : Nodes) → test ancestors tag kids ≡ true → everywhere test (tag ∷ ancestors) kids ≡ true →
    everywhere test ancestors (one tag kids) ≡ true
everywhere-one test ancestors tag kids p q = and_from _ _ (and_from _ _ p q) refl

-- what holds of two lists holds of either choice
pub if_both : (P : Nodes → Type 0) (b : Bool) (x y : Nodes) → (b ≡ true → P x) → (b ≡ false → P y) → P (if b then x else y)
if_both P true x y h k = h refl
if_both P false x y h k = k refl

-- a test that holds everywhere does so among the elements of some names alone
pub everywhere-only : (names : Tag → Bool) (test : Test) (ancestors : List Tag) (xs : Nodes) → everywhere test ancestors xs ≡ true → everywhere test ancestors (only names xs) ≡ true
everywhere-only names test ancestors no_nodes p = refl
everywhere-only names test ancestors (bytes b rest) p = everywhere-only names test ancestors rest p
everywhere-only names test ancestors (element tag kids rest) p =
    let x = and_parts (test ancestors tag kids && everywhere test (tag ∷ ancestors) kids) (everywhere test ancestors rest) p in
    let ih = everywhere-only names test ancestors rest x.1 in
    if_both (λ n. everywhere test ancestors n ≡ true) (names tag) (element tag kids (only names rest)) (only names rest)
    (λ e. and_from _ _ x.0 ih) (λ e. ih)

-- and without them
pub everywhere-without : (names : Tag → Bool) (test : Test) (ancestors : List Tag) (xs : Nodes) → everywhere test ancestors xs ≡ true → everywhere test ancestors (without names xs) ≡ true
everywhere-without names test ancestors no_nodes p = refl
everywhere-without names test ancestors (bytes b rest) p = everywhere-without names test ancestors rest p
everywhere-without names test ancestors (element tag kids rest) p =
    let x = and_parts (test ancestors tag kids && everywhere test (tag ∷ ancestors) kids) (everywhere test ancestors rest) p in
    let ih = everywhere-without names test ancestors rest x.1 in
    if_both (λ n. everywhere test ancestors n ≡ true) (names tag) (without names rest) (element tag kids (without names rest))
    (λ e. ih) (λ e. and_from _ _ x.0 ih)

everywhere_none : (test : Test) (ancestors : List Tag) (xs : Nodes) → has_element xs ≡ false → everywhere test ancestors xs ≡ true
everywhere_none test ancestors no_nodes e = refl
everywhere_none test ancestors (bytes b rest) e = everywhere_none test ancestors rest e
everywhere_none test ancestors (element tag kids rest) e = absurd (true≢false e)

-- What a test of the result needs of the original

-- a stay of an element that is no paragraph
pub record Stays (says : List Say) (old : List Tag) (tag : Tag) (kids : Nodes) : Type 0 where
  pub lives : goes_at says old tag kids ≡ false
  pub other : is "p" tag ≡ false

-- the kids that a kept element has in the result
abbrev pub made : List Say → List Tag → Tag → Nodes → Nodes
made says old tag kids = kept_kids says old tag kids (pass says (tag ∷ old) kids)

-- below a change stands no `rPr` of a mark
abbrev pub NoMarkBelow : List Tag → List Tag → Type 0
NoMarkBelow old new = below_change old ≡ true → within ("pPr" ∷ "p" ∷ []) new ≡ false

pub record Kept (ext : Test) (says : List Say) (test : Test) : Type 0 where
  -- an element that stays
  pub stays : (old new : List Tag) (a b : Tag) (kids : Nodes) → Came old new → Para old new a → NoMarkBelow old new → Holds ext old a kids → Ground ext (a ∷ old) kids → Stays says old a kids → Own a b →
      test new b (made says old a kids) ≡ true
  -- a paragraph by itself
  pub alone : (old new : List Tag) (a b : Tag) (kids : Nodes) → Came old new → Para old new a → Holds ext old a kids → Ground ext (a ∷ old) kids → is "p" a ≡ true → Own a b →
      test new b (pass says (a ∷ old) kids) ≡ true
  -- a joined paragraph
  pub joined : (new : List Tag) (a : Tag) (c : Close) (kids more : Nodes) → is "p" a ≡ true → test new a kids ≡ true → some_element (is "pPr") more ≡ false →
      test new (record a { close = c }) (only (is "pPr") kids ⊕ more) ≡ true
  -- an element of former properties
  pub former : (old new : List Tag) (a : Tag) (kids : Nodes) → Came old new → below_change old ≡ true → Holds ext old a kids → Ground ext (a ∷ old) kids →
      (is "rPr" a && within ("pPr" ∷ "p" ∷ []) new) ≡ false → test new a kids ≡ true

-- no place below a change is open
props_shut : (prop : Prop) (ancestors : List Tag) → in_props prop ancestors ≡ true → is_open ancestors ≡ false
props_shut prop ancestors e = false_from_ne_true (is_open ancestors) (λ o. true≢false (sym e ∙ not_props prop ancestors o))

role_shut : (ancestors : List Tag) (tag : Tag) → is_change (role ancestors tag) ≡ true → is_open ancestors ≡ false
role_shut ancestors tag e = at (prop_of tag) (sym (change_role ancestors tag) ∙ e)
  where
    at : (p : Option Prop) → at_props ancestors p ≡ true → is_open ancestors ≡ false
    at None e = absurd (true≢false (sym e))
    at (Some prop) e = props_shut prop ancestors e

shut_more : (tag : Tag) (ancestors : List Tag) → is_open ancestors ≡ false → is_open (tag ∷ ancestors) ≡ false
shut_more tag ancestors e = false_from_ne_true (is_open (tag ∷ ancestors)) (λ o. true≢false (sym (open_tail tag ancestors o) ∙ e))

-- what is below a change has a quiet ancestor
pub change_shut : (ancestors : List Tag) → below_change ancestors ≡ true → is_open ancestors ≡ false
change_shut [] e = absurd (true≢false (sym e))
change_shut (tag ∷ ancestors) e = at (is_change (role ancestors tag)) refl (below_change ancestors) refl e (λ k. change_shut ancestors k)
  where
    at : (x : Bool) → is_change (role ancestors tag) ≡ x → (y : Bool) → below_change ancestors ≡ y → (x || y) ≡ true →
        (below_change ancestors ≡ true → is_open ancestors ≡ false) → is_open (tag ∷ ancestors) ≡ false
    at true r y b e ih = shut_more tag ancestors (role_shut ancestors tag r)
    at false r y b e ih = shut_more tag ancestors (ih (b ∙ e))

-- Former properties

abbrev pub NoMark : List Tag → Nodes → Type 0
NoMark new no_nodes = Unit {0}
NoMark new (bytes b rest) = NoMark new rest
NoMark new (element tag kids rest) = ((is "rPr" tag && within ("pPr" ∷ "p" ∷ []) new) ≡ false) × NoMark new rest

no_mark : (new : List Tag) (nodes : Nodes) → within ("pPr" ∷ "p" ∷ []) new ≡ false → NoMark new nodes
no_mark new no_nodes e = tt
no_mark new (bytes b rest) e = no_mark new rest e
no_mark new (element tag kids rest) e = (and_right (is "rPr" tag) (within ("pPr" ∷ "p" ∷ []) new) e, no_mark new rest e)

pub shut_para : (new : List Tag) → is_open new ≡ false → within ("p" ∷ []) new ≡ false
shut_para [] e = refl
shut_para (tag ∷ ancestors) e =
    false_from_ne_true (is "p" tag && is_open ancestors) (λ h.
    let both = and_parts (is "p" tag) (is_open ancestors) h in
    true≢false (sym (open_∷ tag ancestors (by_name (λ t. is_quiet t ≡ false) "p" tag both.0 refl) ∙ both.1) ∙ e))

former_walk : (ext : Test) → (says : List Say) (test : Test) → Kept ext says test → (old new : List Tag) (nodes : Nodes) → Came old new → below_change old ≡ true → Ground ext old nodes → NoMark new nodes →
    everywhere test new nodes ≡ true
former_walk ext says test k old new no_nodes c e g m = refl
former_walk ext says test k old new (bytes b rest) c e g m = former_walk ext says test k old new rest c e g m
former_walk ext says test k old new (element tag kids rest) c e g m =
    and_from _ _ (and_from _ _ (k.former old new tag kids c e g.0.rules g.1 m.0)
    (former_walk ext says test k (tag ∷ old) (tag ∷ new) kids (kept tag tag c (like_self tag) (free3 old tag kids g.0.rules.rule_3) (λ p q. inr e))
    (or_right (is_change (role old tag)) (below_change old) e) g.1
    (no_mark (tag ∷ new) kids (and_right (is "pPr" tag) (within ("p" ∷ []) new) (shut_para new (came_open old new c ∙ change_shut old e))))))
    (former_walk ext says test k old new rest c e g.2 m.1)

Ground-if : (ext : Test) → (ancestors : List Tag) (b : Bool) (x y : Nodes) → Ground ext ancestors x → Ground ext ancestors y → Ground ext ancestors (if b then x else y)
Ground-if ext ancestors true x y h k = h
Ground-if ext ancestors false x y h k = k

Ground-without : (ext : Test) → (names : Tag → Bool) (ancestors : List Tag) (xs : Nodes) → Ground ext ancestors xs → Ground ext ancestors (without names xs)
Ground-without ext names ancestors no_nodes g = tt
Ground-without ext names ancestors (bytes b rest) g = Ground-without ext names ancestors rest g
Ground-without ext names ancestors (element tag kids rest) g =
    let ih = Ground-without ext names ancestors rest g.2 in
    Ground-if ext ancestors (names tag) (without names rest) (element tag kids (without names rest)) ih (g.0, g.1, ih)

NoMark-without : (new : List Tag) (xs : Nodes) → NoMark new (without (is_uncovered ParaProp) xs)
NoMark-without new no_nodes = tt
NoMark-without new (bytes b rest) = NoMark-without new rest
NoMark-without new (element tag kids rest) = at (is "rPr" tag) refl (is "sectPr" tag || false) (NoMark-without new rest)
  where
    at : (x : Bool) → is "rPr" tag ≡ x → (y : Bool) → NoMark new (without (is_uncovered ParaProp) rest) →
        NoMark new (if x || y then without (is_uncovered ParaProp) rest else element tag kids (without (is_uncovered ParaProp) rest))
    at true e y ih = ih
    at false e true ih = ih
    at false e false ih = (and_left (is "rPr" tag) (within ("pPr" ∷ "p" ∷ []) new) e, ih)

-- the change that is rejected, and its kids
pub record Found (ext : Test) (ancestors : List Tag) (u : Rejected) : Type 0 where
  pub change : Tag
  pub kids : Nodes
  pub role_is : role ancestors change ≡ Change u.prop
  pub rule_8 : test_8 ancestors change kids ≡ true
  pub ground : Ground ext (change ∷ ancestors) kids
  pub former_is : former_kids (props_name u.prop) kids ≡ u.former

rejected_cases : (b : Bool) (k : Kind) (kids : Nodes) (later : Option Rejected) (u : Rejected) → rejected_as b k kids later ≡ Some u →
    ((k ≡ Change u.prop) × (former_kids (props_name u.prop) kids ≡ u.former)) ⊎ (later ≡ Some u)
rejected_cases true Plain kids later u e = inr e
rejected_cases true (Content t) kids later u e = inr e
rejected_cases true (Mark t) kids later u e = inr e
rejected_cases true (Row t) kids later u e = inr e
rejected_cases true (Cell t) kids later u e = inr e
rejected_cases true (Change prop) kids later u e =
    let same : record { prop = prop; former = former_kids (props_name prop) kids } ≡ u = cc in
    let of_prop : prop ≡ u.prop = ap (λ (v : Rejected). v.prop) same in
    inl (ap Change of_prop, ap (λ p. former_kids (props_name p) kids) (sym of_prop) ∙ ap (λ (v : Rejected). v.former) same)
rejected_cases true Marker kids later u e = inr e
rejected_cases false k kids later u e = inr e

-- a change that is rejected stands among the nodes, as it has to
pub rejected_found : (ext : Test) → (says : List Say) (ancestors : List Tag) (nodes : Nodes) (u : Rejected) → Ground ext ancestors nodes → rejected says nodes ≡ Some u → Found ext ancestors u
rejected_found ext says ancestors no_nodes u g e = cc
rejected_found ext says ancestors (bytes b rest) u g e = rejected_found ext says ancestors rest u g e
rejected_found ext says ancestors (element tag kids rest) u g e =
    at (rejected_cases (is_restore (fate_of says tag)) tag.kind kids (rejected says rest) u e) (λ k. rejected_found ext says ancestors rest u g.2 k)
  where
    of_fit : Fits ancestors tag → tag.kind ≡ Change u.prop → role ancestors tag ≡ Change u.prop
    of_fit (inl k) c = sym k ∙ c
    of_fit (inr m) c = absurd (let h : Marker ≡ Change u.prop = sym m.kind ∙ c in cc)

    at : ((tag.kind ≡ Change u.prop) × (former_kids (props_name u.prop) kids ≡ u.former)) ⊎ (rejected says rest ≡ Some u) → (rejected says rest ≡ Some u → Found ext ancestors u) → Found ext ancestors u
    at (inl (k, n)) ih = record { change = tag; kids = kids; role_is = of_fit g.0.fits k; rule_8 = g.0.rules.rule_8; ground = g.1; former_is = n }
    at (inr h) ih = ih h

pub former_found : (ext : Test) → (local : List ℕ) (ancestors : List Tag) (nodes : Nodes) → Ground ext ancestors nodes →
    (former_kids local nodes ≡ no_nodes) ⊎ ((f : Tag) × Ground ext (f ∷ ancestors) (former_kids local nodes))
former_found ext local ancestors no_nodes g = inl refl
former_found ext local ancestors (bytes b rest) g = former_found ext local ancestors rest g
former_found ext local ancestors (element tag kids rest) g = at (named local tag) (former_found ext local ancestors rest g.2)
  where
    at : (b : Bool) → (former_kids local rest ≡ no_nodes) ⊎ ((f : Tag) × Ground ext (f ∷ ancestors) (former_kids local rest)) →
        ((if b then kids else former_kids local rest) ≡ no_nodes) ⊎ ((f : Tag) × Ground ext (f ∷ ancestors) (if b then kids else former_kids local rest))
    at true ih = inr (tag, g.1)
    at false ih = ih

-- its former properties are none, or stand as they have to
pub rejected_former : (ext : Test) → (ancestors : List Tag) (u : Rejected) (f : Found ext ancestors u) →
    (u.former ≡ no_nodes) ⊎ ((x : Tag) × Ground ext (x ∷ f.change ∷ ancestors) u.former)
rejected_former ext ancestors u f = rw f.former_is at (former_found ext (props_name u.prop) (f.change ∷ ancestors) f.kids f.ground)

-- which property element has a change
abbrev pub owner_of : Prop → String
owner_of Run = "rPr"
owner_of ParaProp = "pPr"
owner_of Sect = "sectPr"
owner_of Table = "tblPr"
owner_of Except = "tblPrEx"
owner_of RowProp = "trPr"
owner_of CellProp = "tcPr"

run_props_name : (tag : Tag) (ancestors : List Tag) → in_run_props (tag ∷ ancestors) ≡ true → is "rPr" tag ≡ true
run_props_name tag ancestors e = (and_parts (is "rPr" tag) (in_run_owner ancestors) e).0

or_same : (x y : Bool) (a b : Bool) → ((x && a) || (y && b)) ≡ true → (x ≡ true → y ≡ true) → y ≡ true
or_same true y a b e h = h refl
or_same false true a b e h = refl
or_same false false a b e h = absurd (true≢false (sym e))

-- what holds properties has a name for them
pub props_owner : (prop : Prop) (tag : Tag) (ancestors : List Tag) → in_props prop (tag ∷ ancestors) ≡ true → is (owner_of prop) tag ≡ true
props_owner Run tag ancestors e = at (in_run_props (tag ∷ ancestors)) refl e
  where
    at : (x : Bool) → in_run_props (tag ∷ ancestors) ≡ x → (x || in_mark_props (tag ∷ ancestors)) ≡ true → is "rPr" tag ≡ true
    at true h e = run_props_name tag ancestors h
    at false h e = (and_parts (is "rPr" tag) (within ("pPr" ∷ "p" ∷ []) ancestors) e).0
props_owner ParaProp tag ancestors e = (and_parts (is "pPr" tag) (within ("p" ∷ []) ancestors) e).0
props_owner Sect tag ancestors e = or_same (is "sectPr" tag) (is "sectPr" tag) (within ("body" ∷ []) ancestors) (within ("pPr" ∷ "p" ∷ []) ancestors) e (λ h. h)
props_owner Table tag ancestors e = (and_parts (is "tblPr" tag) (within ("tbl" ∷ []) ancestors) e).0
props_owner Except tag ancestors e = (and_parts (is "tblPrEx" tag) (within ("tr" ∷ []) ancestors) e).0
props_owner RowProp tag ancestors e = (and_parts (is "trPr" tag) (within ("tr" ∷ []) ancestors) e).0
props_owner CellProp tag ancestors e = (and_parts (is "tcPr" tag) (within ("tc" ∷ []) ancestors) e).0

-- and is quiet
pub owner_quiet : (prop : Prop) (tag : Tag) → is (owner_of prop) tag ≡ true → is_quiet tag ≡ true
owner_quiet Run tag e = by_name (λ t. is_quiet t ≡ true) "rPr" tag e refl
owner_quiet ParaProp tag e = by_name (λ t. is_quiet t ≡ true) "pPr" tag e refl
owner_quiet Sect tag e = by_name (λ t. is_quiet t ≡ true) "sectPr" tag e refl
owner_quiet Table tag e = by_name (λ t. is_quiet t ≡ true) "tblPr" tag e refl
owner_quiet Except tag e = by_name (λ t. is_quiet t ≡ true) "tblPrEx" tag e refl
owner_quiet RowProp tag e = by_name (λ t. is_quiet t ≡ true) "trPr" tag e refl
owner_quiet CellProp tag e = by_name (λ t. is_quiet t ≡ true) "tcPr" tag e refl

-- a change stands in what holds its properties
pub change_props : (ancestors : List Tag) (ch : Tag) (prop : Prop) → role ancestors ch ≡ Change prop → in_props prop ancestors ≡ true
change_props ancestors ch prop e = at (prop_of ch) refl
  where
    same : (x : Bool) (p : Prop) → first_role (placed x (Some (Change p)) ∷ []) ≡ Change prop → (x ≡ true) × (p ≡ prop)
    same true p h = (refl, cc)
    same false p h = cc

    at : (p : Option Prop) → prop_of ch ≡ p → in_props prop ancestors ≡ true
    at None h = absurd (true≢false (sym (ap is_change e) ∙ change_role ancestors ch ∙ ap (at_props ancestors) h))
    at (Some p) h =
        let both = same (in_props p ancestors) p (sym (change_first ancestors ch p h) ∙ e) in
        rw both.1 at both.0

-- the parent of a change is a property element
pub change_parent : (ancestors : List Tag) (parent a : Tag) → is_change (role (parent ∷ ancestors) a) ≡ true → is_quiet parent ≡ true
change_parent ancestors parent a e = at (prop_of a) (sym (change_role (parent ∷ ancestors) a) ∙ e)
  where
    at : (p : Option Prop) → at_props (parent ∷ ancestors) p ≡ true → is_quiet parent ≡ true
    at None h = absurd (true≢false (sym h))
    at (Some prop) h = owner_quiet prop parent (props_owner prop parent ancestors h)

-- Restored properties

module _ (ext : Test) (says : List Say) (test : Test) (k : Kept ext says test) (old new : List Tag) (a b ch : Tag) (c : Came old new) (l : Like a b)
    (q : is_quiet a ≡ true) (r : is_change (role (a ∷ old) ch) ≡ true) where
  former_part : (names : Tag → Bool) (former : Nodes) → ((former ≡ no_nodes) ⊎ ((f : Tag) × Ground ext (f ∷ ch ∷ a ∷ old) former)) →
      ((x : Nodes) → NoMark (b ∷ new) (without names x)) → everywhere test (b ∷ new) (without names former) ≡ true
  former_part names former (inl e) m = rw e refl
  former_part names former (inr (f, g)) m =
      former_walk ext says test k (f ∷ ch ∷ a ∷ old) (b ∷ new) (without names former) (restored_came a b ch f c l q r)
      (restored_change a ch f old r) (Ground-without ext names (f ∷ ch ∷ a ∷ old) former g) (m former)

  former_all : (former : Nodes) → ((former ≡ no_nodes) ⊎ ((f : Tag) × Ground ext (f ∷ ch ∷ a ∷ old) former)) →
      NoMark (b ∷ new) former → everywhere test (b ∷ new) former ≡ true
  former_all former (inl e) m = rw e refl
  former_all former (inr (f, g)) m =
      former_walk ext says test k (f ∷ ch ∷ a ∷ old) (b ∷ new) former (restored_came a b ch f c l q r) (restored_change a ch f old r) g m

  not_para : (o : String) → ordinary o ≡ true → is o a ≡ true → ((t : Tag) → is o t ≡ true → is "pPr" t ≡ false) → (x : Nodes) → NoMark (b ∷ new) x
  not_para o oo e h x = no_mark (b ∷ new) x (and_left (is "pPr" b) (within ("p" ∷ []) new) (h b (l.name o oo ∙ e)))

  restored_all : (prop : Prop) → is (owner_of prop) a ≡ true → (current former : Nodes) → everywhere test (b ∷ new) current ≡ true →
      ((former ≡ no_nodes) ⊎ ((f : Tag) × Ground ext (f ∷ ch ∷ a ∷ old) former)) → everywhere test (b ∷ new) (restored prop current former) ≡ true
  restored_all Run e current former h g =
      everywhere-⊕ test (b ∷ new) (only (is_uncovered Run) current) (without (is_uncovered Run) former) (everywhere-only (is_uncovered Run) test (b ∷ new) current h)
      (former_part (is_uncovered Run) former g (λ x. not_para "rPr" refl e (λ t e. by_name (λ t. is "pPr" t ≡ false) "rPr" t e refl) (without (is_uncovered Run) x)))
  restored_all ParaProp e current former h g =
      everywhere-⊕ test (b ∷ new) (without (is_uncovered ParaProp) former) (only (is_uncovered ParaProp) current) (former_part (is_uncovered ParaProp) former g (λ x. NoMark-without (b ∷ new) x))
      (everywhere-only (is_uncovered ParaProp) test (b ∷ new) current h)
  restored_all Sect e current former h g =
      everywhere-⊕ test (b ∷ new) (only (is_uncovered Sect) current) (without (is_uncovered Sect) former) (everywhere-only (is_uncovered Sect) test (b ∷ new) current h)
      (former_part (is_uncovered Sect) former g (λ x. not_para "sectPr" refl e (λ t e. by_name (λ t. is "pPr" t ≡ false) "sectPr" t e refl) (without (is_uncovered Sect) x)))
  restored_all Table e current former h g = former_all former g (not_para "tblPr" refl e (λ t e. by_name (λ t. is "pPr" t ≡ false) "tblPr" t e refl) former)
  restored_all Except e current former h g = former_all former g (not_para "tblPrEx" refl e (λ t e. by_name (λ t. is "pPr" t ≡ false) "tblPrEx" t e refl) former)
  restored_all RowProp e current former h g =
      everywhere-⊕ test (b ∷ new) (without (is_uncovered RowProp) former) (only (is_uncovered RowProp) current) (former_part (is_uncovered RowProp) former g (λ x. not_para "trPr" refl e (λ t e. by_name (λ t. is "pPr" t ≡ false) "trPr" t e refl) (without (is_uncovered RowProp) x)))
      (everywhere-only (is_uncovered RowProp) test (b ∷ new) current h)
  restored_all CellProp e current former h g =
      everywhere-⊕ test (b ∷ new) (without (is_uncovered CellProp) former) (only (is_uncovered CellProp) current) (former_part (is_uncovered CellProp) former g (λ x. not_para "tcPr" refl e (λ t e. by_name (λ t. is "pPr" t ≡ false) "tcPr" t e refl) (without (is_uncovered CellProp) x)))
      (everywhere-only (is_uncovered CellProp) test (b ∷ new) current h)

-- the kids of an element that stays
made_all : (ext : Test) → (says : List Say) (test : Test) → Kept ext says test → (old new : List Tag) (a b : Tag) (kids : Nodes) → Came old new → Like a b → Ground ext (a ∷ old) kids →
    everywhere test (b ∷ new) (pass says (a ∷ old) kids) ≡ true → everywhere test (b ∷ new) (made says old a kids) ≡ true
made_all ext says test k old new a b kids c l g h = at (rejected says kids) refl
  where
    current : everywhere test (b ∷ new) (present old a (pass says (a ∷ old) kids)) ≡ true
    current = if_both (λ n. everywhere test (b ∷ new) n ≡ true) (is "rPr" a && not (within ("pPr" ∷ "p" ∷ []) old))
        (without (is_uncovered Run) (pass says (a ∷ old) kids)) (pass says (a ∷ old) kids)
        (λ e. everywhere-without (is_uncovered Run) test (b ∷ new) (pass says (a ∷ old) kids) h) (λ e. h)

    at : (u : Option Rejected) → rejected says kids ≡ u → everywhere test (b ∷ new) (after_change old a u (pass says (a ∷ old) kids)) ≡ true
    at None e = h
    at (Some u) e =
        let f = rejected_found ext says (a ∷ old) kids u g e in
        let name = props_owner u.prop a old (change_props (a ∷ old) f.change u.prop f.role_is) in
        restored_all ext says test k old new a b f.change c l (owner_quiet u.prop a name) (ap is_change f.role_is) u.prop name
        (present old a (pass says (a ∷ old) kids)) u.former current (rejected_former ext (a ∷ old) u f)

-- of a paragraph no change of properties is rejected
pub p_made : (ext : Test) → (says : List Say) (old : List Tag) (a : Tag) (kids : Nodes) → is "p" a ≡ true → Ground ext (a ∷ old) kids → made says old a kids ≡ pass says (a ∷ old) kids
p_made ext says old a kids e g = at (rejected says kids) refl
  where
    at : (u : Option Rejected) → rejected says kids ≡ u → after_change old a u (pass says (a ∷ old) kids) ≡ pass says (a ∷ old) kids
    at None h = refl
    at (Some u) h =
        let f = rejected_found ext says (a ∷ old) kids u g h in
        absurd (true_false (is_quiet a) (change_parent old a f.change (ap is_change f.role_is)) (by_name (λ t. is_quiet t ≡ false) "p" a e refl))

-- Pieces

-- a test holds everywhere in a piece, also where a paragraph takes it up
abbrev pub GoodPiece : Test → List Tag → GroupPiece → Type 0
GoodPiece test new (para tag cut kids) =
    (is "p" tag ≡ true) × ((b : Tag) → is "p" b ≡ true → everywhere test (b ∷ new) kids ≡ true) × (test new tag kids ≡ true)
GoodPiece test new (thin nodes) =
    (everywhere test new nodes ≡ true) × ((b : Tag) → is "p" b ≡ true → everywhere test (b ∷ new) (without (is "pPr") nodes) ≡ true)
GoodPiece test new (thick nodes) =
    (everywhere test new nodes ≡ true) × ((b : Tag) → is "p" b ≡ true → everywhere test (b ∷ new) (without (is "pPr") nodes) ≡ true)

-- and in each of several
abbrev pub GoodPieces : Test → List Tag → List GroupPiece → Type 0
GoodPieces test new [] = Unit {0}
GoodPieces test new (p ∷ ps) = GoodPiece test new p × GoodPieces test new ps

-- what is held holds no `pPr`, and all of it is good in a paragraph
abbrev pub GoodHeld : Test → List Tag → Option Nodes → Type 0
GoodHeld test new None = Unit {0}
GoodHeld test new (Some held) =
    ((b : Tag) → is "p" b ≡ true → everywhere test (b ∷ new) held ≡ true) × (some_element (is "pPr") held ≡ false)

-- no element of two lists in a row passes a test that none of either list passes
pub some-⊕ : (n : Tag → Bool) (xs ys : Nodes) → some_element n xs ≡ false → some_element n ys ≡ false → some_element n (xs ⊕ ys) ≡ false
some-⊕ n no_nodes ys p q = q
some-⊕ n (bytes b rest) ys p q = some-⊕ n rest ys p q
some-⊕ n (element t k rest) ys p q =
    let both = or_parts (n t) (some_element n rest) p in
    or_from (n t) (some_element n (rest ⊕ ys)) both.0 (some-⊕ n rest ys both.1 q)

pub some-left_out : (n : Tag → Bool) (xs : Nodes) → some_element n (without n xs) ≡ false
some-left_out n no_nodes = refl
some-left_out n (bytes b rest) = some-left_out n rest
some-left_out n (element t k rest) = at (n t) refl (some-left_out n rest)
  where
    at : (b : Bool) → n t ≡ b → some_element n (without n rest) ≡ false → some_element n (if b then without n rest else element t k (without n rest)) ≡ false
    at true e h = h
    at false e h = or_from (n t) (some_element n (without n rest)) e h

-- what a rule needs of joined paragraphs
abbrev pub Joins : Test → Type 0
Joins test = (new : List Tag) (a : Tag) (c : Close) (kids more : Nodes) → is "p" a ≡ true → test new a kids ≡ true → some_element (is "pPr") more ≡ false →
    test new (record a { close = c }) (only (is "pPr") kids ⊕ more) ≡ true

taken_good : (test : Test) (new : List Tag) (held : Option Nodes) (nodes : Nodes) → GoodHeld test new held →
    ((b : Tag) → is "p" b ≡ true → everywhere test (b ∷ new) (without (is "pPr") nodes) ≡ true) → GoodHeld test new (Some (taken held nodes))
taken_good test new None nodes h g = (g, some-left_out (is "pPr") nodes)
taken_good test new (Some held) nodes h g = (
  λ b e. everywhere-⊕ test (b ∷ new) held (without (is "pPr") nodes) (h.0 b e) (g b e),
  some-⊕ (is "pPr") held (without (is "pPr") nodes) h.1 (some-left_out (is "pPr") nodes),
)

held_good : (test : Test) (new : List Tag) (p : GroupPiece) (held : Option Nodes) (joining : Bool) → GoodPiece test new p → GoodHeld test new held → GoodHeld test new (held_by p held joining)
held_good test new (para tag cut kids) held true g h =
    taken_good test new held kids h (λ b e. everywhere-without (is "pPr") test (b ∷ new) kids (g.1 b e))
held_good test new (para tag cut kids) held false g h = tt
held_good test new (thin nodes) None joining g h = tt
held_good test new (thin nodes) (Some held) joining g h = taken_good test new (Some held) nodes h g.1
held_good test new (thick nodes) held joining g h = tt

settled_good : (test : Test) (new : List Tag) (ends : Bool) (tag : Tag) (kids : Nodes) → everywhere test (tag ∷ new) kids ≡ true → test new tag kids ≡ true →
    everywhere test new (unjoined_para ends tag kids) ≡ true
settled_good test new ends tag kids all own = at (has_element (without (is "pPr") kids)) refl ends
  where
    at : (b : Bool) → has_element (without (is "pPr") kids) ≡ b → (a : Bool) → everywhere test new (if a && not b then without (is "pPr") kids else element tag kids no_nodes) ≡ true
    at true e true = everywhere-one test new tag kids own all
    at true e false = everywhere-one test new tag kids own all
    at false e true = everywhere_none test new (without (is "pPr") kids) e
    at false e false = everywhere-one test new tag kids own all

joined_good : (test : Test) → Joins test → (new : List Tag) (ends : Bool) (held : Option Nodes) (tag : Tag) (kids : Nodes) → GoodPiece test new (para tag ends kids) → GoodHeld test new held →
    everywhere test new (unjoined_para ends (joined_tag held tag) (joined_kids held kids)) ≡ true
joined_good test j new ends None tag kids g h = settled_good test new ends tag kids (g.1 tag g.0) g.2
joined_good test j new ends (Some held) tag kids g h =
    let b = record tag { close = ended tag.close } in
    let more = held ⊕ without (is "pPr") kids in
    settled_good test new ends b (only (is "pPr") kids ⊕ more)
    (everywhere-⊕ test (b ∷ new) (only (is "pPr") kids) more (everywhere-only (is "pPr") test (b ∷ new) kids (g.1 b g.0))
    (everywhere-⊕ test (b ∷ new) held (without (is "pPr") kids) (h.0 b g.0) (everywhere-without (is "pPr") test (b ∷ new) kids (g.1 b g.0))))
    (j new tag (ended tag.close) kids more g.0 g.2 (some-⊕ (is "pPr") held (without (is "pPr") kids) h.1 (some-left_out (is "pPr") kids)))

given_good : (test : Test) → Joins test → (new : List Tag) (p : GroupPiece) (held : Option Nodes) (joining followed : Bool) → GoodPiece test new p → GoodHeld test new held →
    everywhere test new (given p held joining followed) ≡ true
given_good test j new (para tag cut kids) held true followed g h = refl
given_good test j new (para tag cut kids) held false followed g h = joined_good test j new (cut && followed) held tag kids g h
given_good test j new (thin nodes) None joining followed g h = g.0
given_good test j new (thin nodes) (Some held) joining followed g h = refl
given_good test j new (thick nodes) held joining followed g h = g.0

-- then it holds everywhere in the list that they are grouped to
pub grouped_good : (test : Test) → Joins test → (new : List Tag) (followed : Bool) (held : Option Nodes) (ps : List GroupPiece) → GoodPieces test new ps → GoodHeld test new held →
    everywhere test new (grouped_from followed held ps) ≡ true
grouped_good test j new followed held [] g h = refl
grouped_good test j new followed held (p ∷ ps) g h =
    everywhere-⊕ test new (given p held (joins_piece p ps) (has_thick ps || followed)) (grouped_from followed (held_by p held (joins_piece p ps)) ps)
    (given_good test j new p held (joins_piece p ps) (has_thick ps || followed) g.0 h)
    (grouped_good test j new followed (held_by p held (joins_piece p ps)) ps g.1 (held_good test new p held (joins_piece p ps) g.0 h))

-- The walk

-- whatever stands there: a `pPr` of the result's paragraphs was one of the original's
pub record Settled (old new : List Tag) : Type 0 where
  pub para : (a : Tag) → Free3 old a → Para old new a
  pub mark : NoMarkBelow old new

-- a change has the name of one
pub change_name : (ancestors : List Tag) (a : Tag) → is_change (role ancestors a) ≡ true → is_some (prop_of a) ≡ true
change_name ancestors a e = at (prop_of a) (sym (change_role ancestors a) ∙ e)
  where
    at : (p : Option Prop) → at_props ancestors p ≡ true → is_some p ≡ true
    at None h = h
    at (Some p) h = refl

-- a kept element settles its kids
pub settled_kept : (old new : List Tag) (a b : Tag) → Came old new → Like a b → Settled (a ∷ old) (b ∷ new)
settled_kept old new a b c l = record {
  para = λ x f e o. inl (rw (l.name "p" refl, came_open old new c) at o);
  mark = λ e. at (or_cases (is_change (role old a)) (below_change old) e);
}
  where
    at : (is_change (role old a) ≡ true) ⊎ (below_change old ≡ true) → within ("pPr" ∷ "p" ∷ []) (b ∷ new) ≡ false
    at (inl e) = and_left (is "pPr" b) (within ("p" ∷ []) new)
        (l.name "pPr" refl ∙ by_prop (λ t. is "pPr" t ≡ false) a (change_name old a e) (refl, (refl, (refl, (refl, (refl, (refl, (refl, tt))))))))
    at (inr e) = and_right (is "pPr" b) (within ("p" ∷ []) new) (shut_para new (came_open old new c ∙ change_shut old e))

-- and so does one that is freed
pub settled_freed : (old new : List Tag) (a : Tag) → is_some (trace_of a) ≡ true → is_open old ≡ true → Settled (a ∷ old) new
settled_freed old new a t o = record {
  para = λ x f e p.
      absurd (f.below
      (and_from _ _ (by_name (λ t. is_any banned t ≡ true) "pPr" x e refl)
      (open_∷ a old (by_trace (λ t. is_quiet t ≡ false) a t (refl, (refl, (refl, (refl, tt))))) ∙ o))
      (in_below (a ∷ old) t));
  mark = λ e. at (or_cases (is_change (role old a)) (below_change old) e);
}
  where
    at : (is_change (role old a) ≡ true) ⊎ (below_change old ≡ true) → within ("pPr" ∷ "p" ∷ []) new ≡ false
    at (inl e) = absurd (true_false (is_some (trace_of a)) t (by_prop (λ t. is_some (trace_of t) ≡ false) a (change_name old a e) (refl, (refl, (refl, (refl, (refl, (refl, (refl, tt)))))))))
    at (inr e) = absurd (true_false (is_open old) o (change_shut old e))

settled_mark_joins : (old new : List Tag) (b : Tag) → is "p" b ≡ true → NoMarkBelow old (b ∷ new)
settled_mark_joins old new b e h = and_left (is "pPr" b) (within ("p" ∷ []) new) (by_name (λ t. is "pPr" t ≡ false) "p" b e refl)

-- what is labelled as a content revision is one, in open ancestors
pub content_fits : (old : List Tag) (a : Tag) → Fits old a → is_content a.kind ≡ true → (is_open old ≡ true) × (is_some (trace_of a) ≡ true)
content_fits old a (inl k) e = and_parts (is_open old) (is_some (trace_of a)) (sym (content_role old a) ∙ ap is_content (sym k) ∙ e)
content_fits old a (inr m) e = absurd (true≢false (sym e ∙ ap is_content m.kind))

fate_good : (test : Test) (new : List Tag) (f : Fate) (ic : Bool) (passed stays : Nodes) → (f ≡ Leave → everywhere test new stays ≡ true) →
    (ic ≡ true → everywhere test new passed ≡ true) → everywhere test new (by_fate f ic passed stays) ≡ true
fate_good test new Leave ic passed stays h k = h refl
fate_good test new Free true passed stays h k = k refl
fate_good test new Free false passed stays h k = refl
fate_good test new Cut ic passed stays h k = refl
fate_good test new Clear ic passed stays h k = refl
fate_good test new Restore ic passed stays h k = refl
fate_good test new Drop ic passed stays h k = refl

module _ (ext : Test) (says : List Say) (test : Test) (k : Kept ext says test) where
  -- an element by itself
  element_good : (old new : List Tag) (a : Tag) (kids : Nodes) → Came old new → Para old new a → NoMarkBelow old new → Stands ext old a kids → Ground ext (a ∷ old) kids →
      ((new' : List Tag) → Came (a ∷ old) new' → Settled (a ∷ old) new' → everywhere test new' (pass says (a ∷ old) kids) ≡ true) →
      everywhere test new (element_pass says old a kids (pass says (a ∷ old) kids)) ≡ true
  element_good old new a kids c pr mk h g inner =
      let b = renamed says old a in
      let own = own_renamed says old a in
      fate_good test new (fate_of says a) (is_content a.kind) (pass says (a ∷ old) kids)
      (if goes_at says old a kids then no_nodes else element b (made says old a kids) no_nodes)
      (λ e. if_both (λ n. everywhere test new n ≡ true) (goes_at says old a kids) no_nodes (element b (made says old a kids) no_nodes)
      (λ w. refl)
      (λ w. everywhere-one test new b (made says old a kids)
      (own_test (is "p" a) refl e w own)
      (made_all ext says test k old new a b kids c own.like g
      (inner (b ∷ new) (kept a b c own.like (free3 old a kids h.rules.rule_3) pr) (settled_kept old new a b c own.like)))))
      (λ e. let w = content_fits old a h.fits e in inner new (freed a c w.1 w.0) (settled_freed old new a w.1 w.0))
    where
      own_test : (x : Bool) → is "p" a ≡ x → fate_of says a ≡ Leave → goes_at says old a kids ≡ false → Own a (renamed says old a) →
          test new (renamed says old a) (made says old a kids) ≡ true
      own_test true p e w own = ap (test new (renamed says old a)) (p_made ext says old a kids p g) ∙ k.alone old new a (renamed says old a) kids c pr h.rules g p own
      own_test false p e w own = k.stays old new a (renamed says old a) kids c pr mk h.rules g (record { lives = w; other = p }) own

  none_of : (a : Tag) (kids : Nodes) → is "pPr" a ≡ true → without (is "pPr") (element a kids no_nodes) ≡ no_nodes
  none_of a kids e = rw e refl

  none_fate : (f : Fate) (ic : Bool) (passed stays : Nodes) → ic ≡ false → without (is "pPr") stays ≡ no_nodes → without (is "pPr") (by_fate f ic passed stays) ≡ no_nodes
  none_fate Leave ic passed stays e h = h
  none_fate Free true passed stays e h = absurd (true≢false e)
  none_fate Free false passed stays e h = refl
  none_fate Cut ic passed stays e h = refl
  none_fate Clear ic passed stays e h = refl
  none_fate Restore ic passed stays e h = refl
  none_fate Drop ic passed stays e h = refl

  none_if : (b : Bool) (x : Nodes) → without (is "pPr") x ≡ no_nodes → without (is "pPr") (if b then no_nodes else x) ≡ no_nodes
  none_if true x h = refl
  none_if false x h = h

  -- properties give nothing to a joined paragraph
  pPr_gives_none : (old : List Tag) (a : Tag) (kids passed : Nodes) → Fits old a → is "pPr" a ≡ true → without (is "pPr") (element_pass says old a kids passed) ≡ no_nodes
  pPr_gives_none old a kids passed fit e =
      none_fate (fate_of says a) (is_content a.kind) passed
      (if goes_at says old a kids then no_nodes else element (renamed says old a) (kept_kids says old a kids passed) no_nodes)
      (false_from_ne_true (is_content a.kind) (λ w. true_false (is_some (trace_of a)) (content_fits old a fit w).1 (by_name (λ t. is_some (trace_of t) ≡ false) "pPr" a e refl)))
      (none_if (goes_at says old a kids) (element (renamed says old a) (kept_kids says old a kids passed) no_nodes)
      (none_of (renamed says old a) (kept_kids says old a kids passed) ((own_renamed says old a).like.name "pPr" refl ∙ e)))

  between_good : (old new : List Tag) (a : Tag) (kids : Nodes) → Came old new → Stands ext old a kids → Ground ext (a ∷ old) kids →
      ((new' : List Tag) → Came (a ∷ old) new' → Settled (a ∷ old) new' → everywhere test new' (pass says (a ∷ old) kids) ≡ true) →
      (b : Tag) → is "p" b ≡ true → everywhere test (b ∷ new) (without (is "pPr") (element_pass says old a kids (pass says (a ∷ old) kids))) ≡ true
  between_good old new a kids c h g inner b e = at (is "pPr" a) refl
    where
      at : (x : Bool) → is "pPr" a ≡ x → everywhere test (b ∷ new) (without (is "pPr") (element_pass says old a kids (pass says (a ∷ old) kids))) ≡ true
      at true w = ap (everywhere test (b ∷ new)) (pPr_gives_none old a kids (pass says (a ∷ old) kids) h.fits w)
      at false w =
          everywhere-without (is "pPr") test (b ∷ new) (element_pass says old a kids (pass says (a ∷ old) kids))
          (element_good old (b ∷ new) a kids (joins b c e) (λ v. absurd (true≢false (sym v ∙ w))) (settled_mark_joins old new b e) h g inner)

  -- a paragraph of a block list
  para_good : (old new : List Tag) (a : Tag) (kids : Nodes) (cut : Bool) → Came old new → Para old new a → Stands ext old a kids → Ground ext (a ∷ old) kids → is "p" a ≡ true →
      ((new' : List Tag) → Came (a ∷ old) new' → Settled (a ∷ old) new' → everywhere test new' (pass says (a ∷ old) kids) ≡ true) →
      GoodPiece test new (para (renamed says old a) cut (made says old a kids))
  para_good old new a kids cut c pr h g e inner =
      let own = own_renamed says old a in
      let same = p_made ext says old a kids e g in (
        own.like.name "p" refl ∙ e,
        λ b q. ap (everywhere test (b ∷ new)) same
            ∙ inner (b ∷ new) (kept a b c (like_p a b e q) (free3 old a kids h.rules.rule_3) pr) (settled_kept old new a b c (like_p a b e q)),
        ap (test new (renamed says old a)) same ∙ k.alone old new a (renamed says old a) kids c pr h.rules g e own,
      )

  piece_good : (is_p is_heavy : Bool) (new : List Tag) (t : Tag) (cut : Bool) (kids n : Nodes) → (is_p ≡ true → GoodPiece test new (para t cut kids)) →
      (everywhere test new n ≡ true) × ((b : Tag) → is "p" b ≡ true → everywhere test (b ∷ new) (without (is "pPr") n) ≡ true) →
      GoodPiece test new (if is_p then para t cut kids else if is_heavy then thick n else thin n)
  piece_good true is_heavy new t cut kids n h g = h refl
  piece_good false true new t cut kids n h g = g
  piece_good false false new t cut kids n h g = g

  -- THE WALK: each rule's test holds of the result where it holds of what an element of the original becomes
  walk : (old new : List Tag) (nodes : Nodes) → Came old new → Settled old new → Ground ext old nodes → GoodPieces test new (pieces says old nodes)
  walk old new no_nodes c s g = tt
  walk old new (bytes b rest) c s g = ((refl, λ b e. refl), walk old new rest c s g)
  walk old new (element a kids rest) c s g =
      let inner : (new' : List Tag) → Came (a ∷ old) new' → Settled (a ∷ old) new' → everywhere test new' (pass says (a ∷ old) kids) ≡ true =
      λ new' c' s'. grouped_good test k.joined new' false None (pieces says (a ∷ old) kids) (walk (a ∷ old) new' kids c' s' g.1) tt
      in
      let pr = s.para a (free3 old a kids g.0.rules.rule_3) in (
        piece_good (is_block_para says old a) (is_thick a) new (renamed says old a) (para_is_cut says kids) (made says old a kids) (element_pass says old a kids (pass says (a ∷ old) kids))
            (λ e. para_good old new a kids (para_is_cut says kids) c pr g.0 g.1 (block_p says old a e) inner)
            (element_good old new a kids c pr s.mark g.0 g.1 inner, between_good old new a kids c g.0 g.1 inner),
        walk old new rest c s g.2,
      )

  pub walked : (old new : List Tag) (kids : Nodes) → Came old new → Settled old new → Ground ext old kids → everywhere test new (pass says old kids) ≡ true
  walked old new kids c s g = grouped_good test k.joined new false None (pieces says old kids) (walk old new kids c s g) tt
