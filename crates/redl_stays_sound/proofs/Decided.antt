-- No element that a pass gives is one of a decided revision, by one induction over the pass.
use Prim.Native.String.{String}
use Rattle.std.proofs.Common.{◌≡◌, List, [], ◌∷◌, ◌++◌, codes, Bool, true, false, ◌&&◌, ◌||◌, not, ◌⊎◌, inl, inr, Option, Some, None, map, filter, refl, sym, ap, ◌∙◌, true≢false, if◌then◌else◌}
use Rattle.std.proofs.lemmas.Bool.{and_right, false_from_ne_true, or_cases, or_left, or_right}
use Rattle.std.proofs.lemmas.List.Elements.{filter-append}
use Rattle.redl_laws.proofs.Soundness.Ancestors.{at_props, change_role}
use Rattle.redl_laws.proofs.Soundness.Walk.{change_shut}
use Rattle.redl_laws.proofs.Survival.Indexed.{AreStories, indexed_stories, passed, stories-pass}
use Rattle.redl_stays_sound.specs.Decided.{DecidedGo, decided, is_decided}
use Rattle.redl_stays_sound.specs.Kept.{Placed, placed_in}
use Rattle.redl_tree.proofs.Roles.Fits.{AllFit, Fits, not_props}
use Rattle.redl_tree.proofs.Roles.Named.{by_name}
use Rattle.redl_tree.specs.Decisions.Fates.{fate_of, is_revived, renamed}
use Rattle.redl_tree.specs.Decisions.Groups.{GroupPiece, given, grouped_from, has_thick, held_by, joined_kids, joined_tag, joins, para, taken, thick, thin, unjoined_para}
use Rattle.redl_tree.specs.Decisions.Packages.{stories}
use Rattle.redl_tree.specs.Decisions.Pass.{by_fate, element_pass, is_block_para, kept_kids, pass, pieces}
use Rattle.redl_tree.specs.Decisions.Restored.{Rejected, after_change, former_kids, is_uncovered, present, rejected, rejected_as, restored}
use Rattle.redl_tree.specs.Decisions.Tables.{goes_at, para_is_cut}
use Rattle.redl_tree.specs.Model.Kids.{has_element, only, without}
use Rattle.redl_tree.specs.Model.Nodes.{Tag, Nodes, no_nodes, bytes, element, ◌⊕◌}
use Rattle.redl_tree.specs.Model.View.{Element}
use Rattle.redl_tree.specs.Revisions.Markers.{Value}
use Rattle.redl_tree.specs.Roles.Kinds.{is_change, is_content, is_leave, is_restore}
use Rattle.redl_tree.specs.Roles.Lists.{in_blocks, is_thick}
use Rattle.redl_tree.specs.Roles.Names.{is, named}
use Rattle.redl_tree.specs.Roles.Places.{change_at, first_role, in_cell_props, in_mark_props, in_props, in_row_props, in_run_owner, in_run_props, is_open, placed, prop_of, props_name, role, within}
use Rattle.redl_tree.specs.Rules.Sound.{below_change}
use Rattle.redl_tree.specs.declared.kinds.Fate.{Fate}
use Rattle.redl_tree.specs.declared.kinds.Fate.TheVariants.{Clear, Cut, Drop, Free, Leave, Restore}
use Rattle.redl_tree.specs.declared.kinds.Kind.{Kind}
use Rattle.redl_tree.specs.declared.kinds.Kind.TheVariants.{Cell, Change, Content, Mark, Marker, Plain, Row}
use Rattle.redl_tree.specs.declared.kinds.Prop.{Prop}
use Rattle.redl_tree.specs.declared.kinds.Prop.TheVariants as props
use Rattle.redl_tree.specs.declared.kinds.Say.{Say}

-- ---- nodes of which none is decided

abbrev IsLeft : List Say → Tag → Type 0
IsLeft says tag = is_leave (fate_of says tag) ≡ true

abbrev AllLeft : List Say → Nodes → Type 0
AllLeft says no_nodes = Unit {0}
AllLeft says (bytes b rest) = AllLeft says rest
AllLeft says (element tag kids rest) = IsLeft says tag × AllLeft says kids × AllLeft says rest

left-⊕ : (says : List Say) (xs ys : Nodes) → AllLeft says xs → AllLeft says ys → AllLeft says (xs ⊕ ys)
left-⊕ says no_nodes ys p q = q
left-⊕ says (bytes b rest) ys p q = left-⊕ says rest ys p q
left-⊕ says (element tag kids rest) ys p q = (p.0, p.1, left-⊕ says rest ys p.2 q)

left-if : (says : List Say) (b : Bool) (xs ys : Nodes) → AllLeft says xs → AllLeft says ys → AllLeft says (if b then xs else ys)
left-if says true xs ys p q = p
left-if says false xs ys p q = q

left-only : (says : List Say) (names : Tag → Bool) (xs : Nodes) → AllLeft says xs → AllLeft says (only names xs)
left-only says names no_nodes p = tt
left-only says names (bytes b rest) p = left-only says names rest p
left-only says names (element tag kids rest) p =
    let later = left-only says names rest p.2 in
    left-if says (names tag) (element tag kids (only names rest)) (only names rest) (p.0, p.1, later) later

left-without : (says : List Say) (names : Tag → Bool) (xs : Nodes) → AllLeft says xs → AllLeft says (without names xs)
left-without says names no_nodes p = tt
left-without says names (bytes b rest) p = left-without says names rest p
left-without says names (element tag kids rest) p =
    let later = left-without says names rest p.2 in
    left-if says (names tag) (without names rest) (element tag kids (without names rest)) later (p.0, p.1, later)

-- ---- lists that are put together

abbrev IsLeftPiece : List Say → GroupPiece → Type 0
IsLeftPiece says (para tag cut kids) = IsLeft says tag × AllLeft says kids
IsLeftPiece says (thin nodes) = AllLeft says nodes
IsLeftPiece says (thick nodes) = AllLeft says nodes

abbrev AreLeft : List Say → List GroupPiece → Type 0
AreLeft says [] = Unit {0}
AreLeft says (p ∷ ps) = IsLeftPiece says p × AreLeft says ps

abbrev IsLeftHeld : List Say → Option Nodes → Type 0
IsLeftHeld says None = Unit {0}
IsLeftHeld says (Some held) = AllLeft says held

left-taken : (says : List Say) (held : Option Nodes) (nodes : Nodes) → IsLeftHeld says held → AllLeft says nodes → AllLeft says (taken held nodes)
left-taken says None nodes h p = left-without says (is "pPr") nodes p
left-taken says (Some held) nodes h p = left-⊕ says held (without (is "pPr") nodes) h (left-without says (is "pPr") nodes p)

left-joined : (says : List Say) (held : Option Nodes) (kids : Nodes) → IsLeftHeld says held → AllLeft says kids → AllLeft says (joined_kids held kids)
left-joined says None kids h p = p
left-joined says (Some held) kids h p =
    left-⊕ says (only (is "pPr") kids) (held ⊕ without (is "pPr") kids) (left-only says (is "pPr") kids p)
    (left-⊕ says held (without (is "pPr") kids) h (left-without says (is "pPr") kids p))

left-joined_tag : (says : List Say) (held : Option Nodes) (tag : Tag) → IsLeft says tag → IsLeft says (joined_tag held tag)
left-joined_tag says None tag p = p
left-joined_tag says (Some held) tag p = p

left-unjoined : (says : List Say) (ends : Bool) (tag : Tag) (kids : Nodes) → IsLeft says tag → AllLeft says kids → AllLeft says (unjoined_para ends tag kids)
left-unjoined says ends tag kids t p =
    left-if says (ends && not (has_element (without (is "pPr") kids))) (without (is "pPr") kids) (element tag kids no_nodes)
    (left-without says (is "pPr") kids p) (t, p, tt)

left-given : (says : List Say) (p : GroupPiece) (held : Option Nodes) (joined followed : Bool) → IsLeftPiece says p → IsLeftHeld says held → AllLeft says (given p held joined followed)
left-given says (para tag cut kids) held true followed p h = tt
left-given says (para tag cut kids) held false followed p h =
    left-unjoined says (cut && followed) (joined_tag held tag) (joined_kids held kids) (left-joined_tag says held tag p.0) (left-joined says held kids h p.1)
left-given says (thin nodes) None joined followed p h = p
left-given says (thin nodes) (Some held) joined followed p h = tt
left-given says (thick nodes) held joined followed p h = p

left-held : (says : List Say) (p : GroupPiece) (held : Option Nodes) (joined : Bool) → IsLeftPiece says p → IsLeftHeld says held → IsLeftHeld says (held_by p held joined)
left-held says (para tag cut kids) held true p h = left-taken says held kids h p.1
left-held says (para tag cut kids) held false p h = tt
left-held says (thin nodes) None joined p h = tt
left-held says (thin nodes) (Some held) joined p h = left-taken says (Some held) nodes h p
left-held says (thick nodes) held joined p h = tt

left-grouped : (says : List Say) (followed : Bool) (held : Option Nodes) (ps : List GroupPiece) → AreLeft says ps → IsLeftHeld says held → AllLeft says (grouped_from followed held ps)
left-grouped says followed held [] p h = tt
left-grouped says followed held (one ∷ ps) p h =
    left-⊕ says (given one held (joins one ps) (has_thick ps || followed)) (grouped_from followed (held_by one held (joins one ps)) ps)
    (left-given says one held (joins one ps) (has_thick ps || followed) p.0 h)
    (left-grouped says followed (held_by one held (joins one ps)) ps p.1 (left-held says one held (joins one ps) p.0 h))

-- ---- below a change no element is a member or a marker

change_within : (ancestors : List Tag) (tag : Tag) → is_change (role ancestors tag) ≡ true → is_open ancestors ≡ false
change_within ancestors tag e = at (prop_of tag) (sym (change_role ancestors tag) ∙ e)
  where
    at : (p : Option Prop) → at_props ancestors p ≡ true → is_open ancestors ≡ false
    at None e = absurd (true≢false (sym e))
    at (Some prop) e = false_from_ne_true (is_open ancestors) (λ o. true≢false (sym e ∙ not_props prop ancestors o))

-- no change has this name
abbrev IsOther : String → Type 0
IsOther name = (tag : Tag) → is name tag ≡ true → prop_of tag ≡ None

abbrev AreOther : List String → Type 0
AreOther [] = Unit {0}
AreOther (name ∷ names) = IsOther name × AreOther names

-- a change above an element that is none is above its parent
above : (ancestors : List Tag) (tag : Tag) → prop_of tag ≡ None → below_change (tag ∷ ancestors) ≡ true → below_change ancestors ≡ true
above ancestors tag none below = at (or_cases (is_change (role ancestors tag)) (below_change ancestors) below)
  where
    at : (is_change (role ancestors tag) ≡ true) ⊎ (below_change ancestors ≡ true) → below_change ancestors ≡ true
    at (inl e) = absurd (true≢false (sym e ∙ change_role ancestors tag ∙ ap (at_props ancestors) none))
    at (inr e) = e

and_false : (a b : Bool) → (a ≡ true → b ≡ false) → (a && b) ≡ false
and_false true b h = h refl
and_false false b h = refl

not_within : (names : List String) → AreOther names → (ancestors : List Tag) → below_change ancestors ≡ true → within names ancestors ≡ false
not_within [] other ancestors below = change_shut ancestors below
not_within (name ∷ names) other [] below = refl
not_within (name ∷ names) other (tag ∷ ancestors) below =
    and_false (is name tag) (within names ancestors) (λ e. not_within names other.1 ancestors (above ancestors tag (other.0 tag e) below))

rPr_other : IsOther "rPr"
rPr_other tag e = by_name (λ t. prop_of t ≡ None) "rPr" tag e refl

pPr_other : IsOther "pPr"
pPr_other tag e = by_name (λ t. prop_of t ≡ None) "pPr" tag e refl

p_other : IsOther "p"
p_other tag e = by_name (λ t. prop_of t ≡ None) "p" tag e refl

sectPr_other : IsOther "sectPr"
sectPr_other tag e = by_name (λ t. prop_of t ≡ None) "sectPr" tag e refl

body_other : IsOther "body"
body_other tag e = by_name (λ t. prop_of t ≡ None) "body" tag e refl

tblPr_other : IsOther "tblPr"
tblPr_other tag e = by_name (λ t. prop_of t ≡ None) "tblPr" tag e refl

tbl_other : IsOther "tbl"
tbl_other tag e = by_name (λ t. prop_of t ≡ None) "tbl" tag e refl

tblPrEx_other : IsOther "tblPrEx"
tblPrEx_other tag e = by_name (λ t. prop_of t ≡ None) "tblPrEx" tag e refl

tr_other : IsOther "tr"
tr_other tag e = by_name (λ t. prop_of t ≡ None) "tr" tag e refl

trPr_other : IsOther "trPr"
trPr_other tag e = by_name (λ t. prop_of t ≡ None) "trPr" tag e refl

tcPr_other : IsOther "tcPr"
tcPr_other tag e = by_name (λ t. prop_of t ≡ None) "tcPr" tag e refl

tc_other : IsOther "tc"
tc_other tag e = by_name (λ t. prop_of t ≡ None) "tc" tag e refl

not_mark : (ancestors : List Tag) → below_change ancestors ≡ true → in_mark_props ancestors ≡ false
not_mark ancestors below = not_within ("rPr" ∷ "pPr" ∷ "p" ∷ []) (rPr_other, (pPr_other, (p_other, tt))) ancestors below

not_owner : (ancestors : List Tag) → below_change ancestors ≡ true → in_run_owner ancestors ≡ false
not_owner [] below = refl
not_owner (tag ∷ ancestors) below = and_right _ (is_open ancestors) (at (or_cases (is_change (role ancestors tag)) (below_change ancestors) below))
  where
    at : (is_change (role ancestors tag) ≡ true) ⊎ (below_change ancestors ≡ true) → is_open ancestors ≡ false
    at (inl e) = change_within ancestors tag e
    at (inr e) = change_shut ancestors e

not_run : (ancestors : List Tag) → below_change ancestors ≡ true → in_run_props ancestors ≡ false
not_run [] below = refl
not_run (tag ∷ ancestors) below =
    and_false (is "rPr" tag) (in_run_owner ancestors) (λ e. not_owner ancestors (above ancestors tag (rPr_other tag e) below))

not_in : (prop : Prop) (ancestors : List Tag) → below_change ancestors ≡ true → in_props prop ancestors ≡ false
not_in props.Run ancestors below = rw (not_run ancestors below, not_mark ancestors below) refl
not_in props.Para ancestors below = not_within ("pPr" ∷ "p" ∷ []) (pPr_other, (p_other, tt)) ancestors below
not_in props.Sect ancestors below =
    rw (
      not_within ("sectPr" ∷ "body" ∷ []) (sectPr_other, (body_other, tt)) ancestors below,
      not_within ("sectPr" ∷ "pPr" ∷ "p" ∷ []) (sectPr_other, (pPr_other, (p_other, tt))) ancestors below,
    ) refl
not_in props.Table ancestors below = not_within ("tblPr" ∷ "tbl" ∷ []) (tblPr_other, (tbl_other, tt)) ancestors below
not_in props.Except ancestors below = not_within ("tblPrEx" ∷ "tr" ∷ []) (tblPrEx_other, (tr_other, tt)) ancestors below
not_in props.Row ancestors below = not_within ("trPr" ∷ "tr" ∷ []) (trPr_other, (tr_other, tt)) ancestors below
not_in props.Cell ancestors below = not_within ("tcPr" ∷ "tc" ∷ []) (tcPr_other, (tc_other, tt)) ancestors below

no_change : (ancestors : List Tag) (prop : Option Prop) → below_change ancestors ≡ true → change_at ancestors prop ≡ None
no_change ancestors None below = refl
no_change ancestors (Some prop) below = ap (λ b. placed b (Some (Change prop))) (not_in prop ancestors below)

no_role : (opened mark row cell : Bool) (a b c d : Option Kind) (change : Option Kind) → opened ≡ false → mark ≡ false → row ≡ false → cell ≡ false → change ≡ None
    → first_role (placed opened a ∷ placed mark b ∷ placed row c ∷ placed cell d ∷ change ∷ []) ≡ Plain
no_role opened mark row cell a b c d change o m r l n = rw (o, m, r, l, n) refl

role_below : (ancestors : List Tag) (tag : Tag) → below_change ancestors ≡ true → role ancestors tag ≡ Plain
role_below ancestors tag below =
    no_role (is_open ancestors) (in_mark_props ancestors) (in_row_props ancestors) (in_cell_props ancestors) _ _ _ _ (change_at ancestors (prop_of tag))
    (change_shut ancestors below) (not_mark ancestors below)
    (not_within ("trPr" ∷ "tr" ∷ []) (trPr_other, (tr_other, tt)) ancestors below)
    (not_within ("tcPr" ∷ "tc" ∷ []) (tcPr_other, (tc_other, tt)) ancestors below)
    (no_change ancestors (prop_of tag) below)

plain_left : (says : List Say) (tag : Tag) → tag.kind ≡ Plain → IsLeft says tag
plain_left says tag e = rw e refl

fits_below : (says : List Say) (ancestors : List Tag) (tag : Tag) → below_change ancestors ≡ true → Fits ancestors tag → IsLeft says tag
fits_below says ancestors tag below (inl kind) = plain_left says tag (kind ∙ role_below ancestors tag below)
fits_below says ancestors tag below (inr marker) = absurd (true≢false (sym marker.open_place ∙ change_shut ancestors below))

all_below : (says : List Say) (ancestors : List Tag) (nodes : Nodes) → below_change ancestors ≡ true → AllFit ancestors nodes → AllLeft says nodes
all_below says ancestors no_nodes below fit = tt
all_below says ancestors (bytes b rest) below fit = all_below says ancestors rest below fit
all_below says ancestors (element tag kids rest) below fit = (
  fits_below says ancestors tag below fit.0,
  all_below says (tag ∷ ancestors) kids (or_right (is_change (role ancestors tag)) (below_change ancestors) below) fit.1,
  all_below says ancestors rest below fit.2,
)

-- ---- rejected changes

abbrev IsLeftChange : List Say → Option Rejected → Type 0
IsLeftChange says None = Unit {0}
IsLeftChange says (Some change) = AllLeft says change.former

left-former : (says : List Say) (name : List _) (nodes : Nodes) → AllLeft says nodes → AllLeft says (former_kids name nodes)
left-former says name no_nodes p = tt
left-former says name (bytes b rest) p = left-former says name rest p
left-former says name (element tag kids rest) p = left-if says (named name tag) kids (former_kids name rest) p.1 (left-former says name rest p.2)

left-rejected_as : (says : List Say) (b : Bool) (kind : Kind) (kids : Nodes) (later : Option Rejected) → ((prop : Prop) → kind ≡ Change prop → AllLeft says kids)
    → IsLeftChange says later → IsLeftChange says (rejected_as b kind kids later)
left-rejected_as says true (Change prop) kids later p h = left-former says (props_name prop) kids (p prop refl)
left-rejected_as says true Plain kids later p h = h
left-rejected_as says true (Content trace) kids later p h = h
left-rejected_as says true (Mark trace) kids later p h = h
left-rejected_as says true (Row trace) kids later p h = h
left-rejected_as says true (Cell trace) kids later p h = h
left-rejected_as says true Marker kids later p h = h
left-rejected_as says false kind kids later p h = h

of_change : (ancestors : List Tag) (tag : Tag) (prop : Prop) → Fits ancestors tag → tag.kind ≡ Change prop → below_change (tag ∷ ancestors) ≡ true
of_change ancestors tag prop (inl kind) e = or_left (is_change (role ancestors tag)) (below_change ancestors) (ap is_change (sym kind ∙ e))
of_change ancestors tag prop (inr marker) e = absurd (let wrong : Marker ≡ Change prop = sym marker.kind ∙ e in cc)

left-rejected : (says : List Say) (ancestors : List Tag) (nodes : Nodes) → AllFit ancestors nodes → IsLeftChange says (rejected says nodes)
left-rejected says ancestors no_nodes fit = tt
left-rejected says ancestors (bytes b rest) fit = left-rejected says ancestors rest fit
left-rejected says ancestors (element tag kids rest) fit =
    left-rejected_as says (is_restore (fate_of says tag)) tag.kind kids (rejected says rest)
    (λ prop e. all_below says (tag ∷ ancestors) kids (of_change ancestors tag prop fit.0 e) fit.1) (left-rejected says ancestors rest fit.2)

left-restored : (says : List Say) (prop : Prop) (current former : Nodes) → AllLeft says current → AllLeft says former → AllLeft says (restored prop current former)
left-restored says props.Run current former p q =
    left-⊕ says (only (is_uncovered props.Run) current) (without (is_uncovered props.Run) former)
    (left-only says (is_uncovered props.Run) current p) (left-without says (is_uncovered props.Run) former q)
left-restored says props.Para current former p q =
    left-⊕ says (without (is_uncovered props.Para) former) (only (is_uncovered props.Para) current)
    (left-without says (is_uncovered props.Para) former q) (left-only says (is_uncovered props.Para) current p)
left-restored says props.Sect current former p q =
    left-⊕ says (only (is_uncovered props.Sect) current) (without (is_uncovered props.Sect) former)
    (left-only says (is_uncovered props.Sect) current p) (left-without says (is_uncovered props.Sect) former q)
left-restored says props.Table current former p q = q
left-restored says props.Except current former p q = q
left-restored says props.Row current former p q =
    left-⊕ says (without (is_uncovered props.Row) former) (only (is_uncovered props.Row) current)
    (left-without says (is_uncovered props.Row) former q) (left-only says (is_uncovered props.Row) current p)
left-restored says props.Cell current former p q =
    left-⊕ says (without (is_uncovered props.Cell) former) (only (is_uncovered props.Cell) current)
    (left-without says (is_uncovered props.Cell) former q) (left-only says (is_uncovered props.Cell) current p)

left-after : (says : List Say) (ancestors : List Tag) (tag : Tag) (change : Option Rejected) (passed : Nodes) → IsLeftChange says change → AllLeft says passed
    → AllLeft says (after_change ancestors tag change passed)
left-after says ancestors tag None passed c p = p
left-after says ancestors tag (Some change) passed c p =
    left-restored says change.prop (present ancestors tag passed) change.former
    (left-if says _ (without (is_uncovered props.Run) passed) passed (left-without says (is_uncovered props.Run) passed p) p) c

-- ---- the walk

left-renamed : (says : List Say) (ancestors : List Tag) (tag : Tag) → IsLeft says tag → IsLeft says (renamed says ancestors tag)
left-renamed says ancestors tag p = at (is_revived says ancestors) (is "delText" tag) (is "delInstrText" tag)
  where
    at : (a b c : Bool) → IsLeft says (if a then (if b then record tag { local = codes "t" } else if c then record tag { local = codes "instrText" } else tag) else tag)
    at true true c = p
    at true false true = p
    at true false false = p
    at false b c = p

left-kept : (says : List Say) (ancestors : List Tag) (tag : Tag) (kids passed : Nodes) → AllFit (tag ∷ ancestors) kids → AllLeft says passed
    → AllLeft says (kept_kids says ancestors tag kids passed)
left-kept says ancestors tag kids passed fit p = left-after says ancestors tag (rejected says kids) passed (left-rejected says (tag ∷ ancestors) kids fit) p

left-by : (says : List Say) (of : Fate) (content : Bool) (passed stays : Nodes) → AllLeft says passed → (is_leave of ≡ true → AllLeft says stays)
    → AllLeft says (by_fate of content passed stays)
left-by says Leave content passed stays p s = s refl
left-by says Free true passed stays p s = p
left-by says Free false passed stays p s = tt
left-by says Cut content passed stays p s = tt
left-by says Clear content passed stays p s = tt
left-by says Restore content passed stays p s = tt
left-by says Drop content passed stays p s = tt

left-element : (says : List Say) (ancestors : List Tag) (tag : Tag) (kids passed : Nodes) → AllFit (tag ∷ ancestors) kids → AllLeft says passed
    → AllLeft says (element_pass says ancestors tag kids passed)
left-element says ancestors tag kids passed fit p =
    left-by says (fate_of says tag) (is_content tag.kind) passed
    (if goes_at says ancestors tag kids then no_nodes else element (renamed says ancestors tag) (kept_kids says ancestors tag kids passed) no_nodes) p
    (λ leave. left-if says (goes_at says ancestors tag kids) no_nodes (element (renamed says ancestors tag) (kept_kids says ancestors tag kids passed) no_nodes) tt
    (left-renamed says ancestors tag leave, left-kept says ancestors tag kids passed fit p, tt))

left-piece : (says : List Say) (ancestors : List Tag) (tag : Tag) (kids passed : Nodes) → AllFit (tag ∷ ancestors) kids → AllLeft says passed
    → (b t : Bool) → (b ≡ true → IsLeft says tag)
    → IsLeftPiece says (if b then para (renamed says ancestors tag) (para_is_cut says kids) (kept_kids says ancestors tag kids passed)
    else if t then thick (element_pass says ancestors tag kids passed) else thin (element_pass says ancestors tag kids passed))
left-piece says ancestors tag kids passed fit p true t leave = (left-renamed says ancestors tag (leave refl), left-kept says ancestors tag kids passed fit p)
left-piece says ancestors tag kids passed fit p false true leave = left-element says ancestors tag kids passed fit p
left-piece says ancestors tag kids passed fit p false false leave = left-element says ancestors tag kids passed fit p

last_of : (a b c : Bool) → (a && b && c) ≡ true → c ≡ true
last_of true true c e = e
last_of true false c e = absurd (true≢false (sym e))
last_of false b c e = absurd (true≢false (sym e))

left-pieces : (says : List Say) (ancestors : List Tag) (nodes : Nodes) → AllFit ancestors nodes → AreLeft says (pieces says ancestors nodes)
left-pieces says ancestors no_nodes fit = tt
left-pieces says ancestors (bytes b rest) fit = (tt, left-pieces says ancestors rest fit)
left-pieces says ancestors (element tag kids rest) fit = (
  left-piece says ancestors tag kids (pass says (tag ∷ ancestors) kids) fit.1
      (left-grouped says false None (pieces says (tag ∷ ancestors) kids) (left-pieces says (tag ∷ ancestors) kids fit.1) tt)
      (is_block_para says ancestors tag) (is_thick tag) (last_of (is "p" tag) (in_blocks ancestors) (is_leave (fate_of says tag))),
  left-pieces says ancestors rest fit.2,
)

left-pass : (says : List Say) (ancestors : List Tag) (nodes : Nodes) → AllFit ancestors nodes → AllLeft says (pass says ancestors nodes)
left-pass says ancestors nodes fit = left-grouped says false None (pieces says ancestors nodes) (left-pieces says ancestors nodes fit) tt

-- ---- stories

none_decided : (says : List Say) (ancestors : List Element) (nodes : Nodes) → AllLeft says nodes → filter (λ one. is_decided says one.tag) (placed_in ancestors nodes) ≡ []
none_decided says ancestors no_nodes p = refl
none_decided says ancestors (bytes b rest) p = none_decided says ancestors rest p
none_decided says ancestors (element tag kids rest) p =
    let here : Element = record { tag = tag; kids = kids } in
    rw p.0 (filter-append (λ one. is_decided says one.tag) (placed_in (here ∷ ancestors) kids) (placed_in ancestors rest)
    ∙ ap (λ (xs : List Placed). xs ++ filter (λ one. is_decided says one.tag) (placed_in ancestors rest)) (none_decided says (here ∷ ancestors) kids p.1)
    ∙ none_decided says ancestors rest p.2)

none_of : (says : List Say) (xs : List Element) → AreStories xs → map (decided says) (map (passed says) xs) ≡ map (λ _. []) xs
none_of says [] h = refl
none_of says (x ∷ xs) h =
    ap (λ (first : List Placed). first ∷ map (decided says) (map (passed says) xs))
    (none_decided says _ (pass says (x.tag ∷ []) x.kids) (left-pass says (x.tag ∷ []) x.kids h.0.fits))
    ∙ ap (λ (later : List (List Placed)). [] ∷ later) (none_of says xs h.1)

-- no revision stays that was accepted or rejected
pub decided_go : (value : Value) → DecidedGo value
decided_go value says nodes indexed = ap (λ (xs : List Element). map (decided says) xs) (stories-pass says nodes) ∙ none_of says (stories nodes) (indexed_stories value nodes indexed)
