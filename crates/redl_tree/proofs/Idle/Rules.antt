-- The nine rules of structure hold of idle elements, wherever they are.
use Rattle.std.proofs.Common.{◌≡◌, ◌∙◌, refl, sym, ap, ℕ, List, [], ◌∷◌, Bool, true, false, true≢false, ◌&&◌, ◌||◌, not, is_some}
use Rattle.std.proofs.lemmas.Bool.{and_from, or_from}
use Rattle.std.proofs.Math.Bool.{and-false}
use Rattle.redl_tree.specs.Model.Nodes.{Tag, Nodes, no_nodes, bytes, element, ◌⊕◌}
use Rattle.redl_tree.specs.Model.Kids.{some_element}
use Rattle.redl_tree.specs.Roles.Names.{is, is_any}
use Rattle.redl_tree.specs.Roles.Places.{is_open, within, prop_of, in_mark_props, role}
use Rattle.redl_tree.specs.Roles.Lists.{is_thick}
use Rattle.redl_tree.specs.Roles.Kinds.{is_content, is_change}
use Rattle.redl_tree.specs.Roles.Idle.{is_idle_in}
use Rattle.redl_tree.specs.Rules.Tests.{Test, everywhere, implies, open_one, once, each_once}
use Rattle.redl_tree.specs.Rules.Sound.{below_content, in_content, among_blocks, is_banned, below_change, is_banned_below_change, change_declares, test_1, test_2, test_3, test_4, test_5, test_6, test_7, test_8, test_9, tests}
use Rattle.redl_tree.specs.Model.Kids.{has_element}
use Rattle.redl_tree.specs.declared.kinds.Kind.{Kind}
use Rattle.redl_tree.proofs.Roles.NameLaws.{is-other}
use Rattle.redl_tree.proofs.Idle.Tags.{Idle, idle_parts, has-not}
use Rattle.redl_tree.proofs.Idle.Lists.{names_none, last_idle}
use Rattle.redl_tree.proofs.Idle.Roles.{no_prop, no_marker, no_role}

-- the nearest ancestor is a run
abbrev pub is_in_run : List Tag → Bool
is_in_run [] = false
is_in_run (tag ∷ ancestors) = is "r" tag

-- a rule that idle elements keep
abbrev pub IsKept : Test → Type 0
IsKept test = (ancestors : List Tag) (in_run : Bool) (tag : Tag) (kids : Nodes) → (in_run ≡ true → is_in_run ancestors ≡ true) → Idle in_run tag → is_idle_in (is "r" tag) kids ≡ true →
    test ancestors tag kids ≡ true

pub everywhere_idle : (test : Test) → IsKept test → (ancestors : List Tag) (in_run : Bool) (nodes : Nodes) → (in_run ≡ true → is_in_run ancestors ≡ true) → is_idle_in in_run nodes ≡ true →
    everywhere test ancestors nodes ≡ true
everywhere_idle test kept ancestors in_run no_nodes at h = refl
everywhere_idle test kept ancestors in_run (bytes b rest) at h = everywhere_idle test kept ancestors in_run rest at h
everywhere_idle test kept ancestors in_run (element tag kids rest) at h =
    let p = idle_parts in_run tag kids rest h in
    and_from _ _
    (and_from _ _ (kept ancestors in_run tag kids at p.own p.below) (everywhere_idle test kept (tag ∷ ancestors) (is "r" tag) kids (λ e. e) p.below))
    (everywhere_idle test kept ancestors in_run rest at p.later)

pub everywhere_past : (test : Test) → IsKept test → (ancestors : List Tag) (in_run : Bool) (x y : Nodes) → (in_run ≡ true → is_in_run ancestors ≡ true) → is_idle_in in_run x ≡ true →
    everywhere test ancestors (x ⊕ y) ≡ everywhere test ancestors y
everywhere_past test kept ancestors in_run no_nodes y at h = refl
everywhere_past test kept ancestors in_run (bytes b rest) y at h = everywhere_past test kept ancestors in_run rest y at h
everywhere_past test kept ancestors in_run (element tag kids rest) y at h =
    let p = idle_parts in_run tag kids rest h in
    ap (λ b. (b && everywhere test (tag ∷ ancestors) kids) && everywhere test ancestors (rest ⊕ y)) (kept ancestors in_run tag kids at p.own p.below)
    ∙ ap (λ b. b && everywhere test ancestors (rest ⊕ y)) (everywhere_idle test kept (tag ∷ ancestors) (is "r" tag) kids (λ e. e) p.below)
    ∙ everywhere_past test kept ancestors in_run rest y at p.later

-- where nothing is known of a parent
pub idle_kept : (test : Test) → IsKept test → (ancestors : List Tag) (nodes : Nodes) → is_idle_in false nodes ≡ true → everywhere test ancestors nodes ≡ true
idle_kept test kept ancestors nodes h = everywhere_idle test kept ancestors false nodes (λ e. absurd (true≢false (sym e))) h

-- Each of the nine

implies_true : (b : Bool) → implies b true ≡ true
implies_true true = refl
implies_true false = refl

kept_1 : IsKept test_1
kept_1 ancestors in_run tag kids at i h = rw (has-not "tc" in_run tag i refl) refl

kept_2 : IsKept test_2
kept_2 ancestors in_run tag kids at i h = rw (has-not "tr" in_run tag i refl) refl

-- a run is no content revision, and no properties of a paragraph
run_not_content : (ancestors : List Tag) → is_in_run ancestors ≡ true → in_content ancestors ≡ false
run_not_content [] e = refl
run_not_content (tag ∷ ancestors) e =
    rw (is-other "r" "ins" tag e refl, is-other "r" "del" tag e refl, is-other "r" "moveFrom" tag e refl, is-other "r" "moveTo" tag e refl) refl

run_not_props : (ancestors : List Tag) → is_in_run ancestors ≡ true → within ("pPr" ∷ "p" ∷ []) ancestors ≡ false
run_not_props [] e = refl
run_not_props (tag ∷ ancestors) e = rw (is-other "r" "pPr" tag e refl) refl

no_banned : (in_run : Bool) (tag : Tag) → Idle in_run tag → is_banned tag ≡ false
no_banned in_run tag i = names_none ("p" ∷ "tbl" ∷ "tr" ∷ "tc" ∷ "pPr" ∷ "tblPr" ∷ "tblPrEx" ∷ "trPr" ∷ "tcPr" ∷ "sectPr" ∷ []) in_run refl tag i

-- run properties, where they are idle, are in a run
run_props_kept : (ancestors : List Tag) (in_run : Bool) (tag : Tag) → (in_run ≡ true → is_in_run ancestors ≡ true) → Idle in_run tag →
    implies (is_any ("rPr" ∷ "sdtContent" ∷ []) tag && is_open ancestors) (not (in_content ancestors)) ≡ true
run_props_kept ancestors true tag at i =
    ap (λ b. implies (is_any ("rPr" ∷ "sdtContent" ∷ []) tag && is_open ancestors) (not b)) (run_not_content ancestors (at refl))
    ∙ implies_true (is_any ("rPr" ∷ "sdtContent" ∷ []) tag && is_open ancestors)
run_props_kept ancestors false tag at i =
    ap (λ b. implies (b && is_open ancestors) (not (in_content ancestors)))
    (or_from (is "rPr" tag) (is_any ("sdtContent" ∷ []) tag) (has-not "rPr" false tag i refl) (names_none ("sdtContent" ∷ []) false refl tag i))

kept_3 : IsKept test_3
kept_3 ancestors in_run tag kids at i h =
    and_from _ _
    (and_from _ _
    (ap (λ b. implies (b && is_open ancestors) (not (below_content ancestors))) (no_banned in_run tag i))
    (run_props_kept ancestors in_run tag at i))
    (ap (λ (k : Kind). implies (is_content k && among_blocks ancestors) (not (some_element is_thick kids))) (no_role ancestors in_run tag i))

kept_4 : IsKept test_4
kept_4 ancestors in_run tag kids at i h =
    last_idle (is "r" tag) (λ kid. is_change (role (tag ∷ ancestors) kid)) (λ kid k. ap is_change (no_role (tag ∷ ancestors) (is "r" tag) kid k)) kids h

no_mark_props : (ancestors : List Tag) (in_run : Bool) (tag : Tag) → (in_run ≡ true → is_in_run ancestors ≡ true) → Idle in_run tag → in_mark_props (tag ∷ ancestors) ≡ false
no_mark_props ancestors true tag at i = ap (λ b. is "rPr" tag && b) (run_not_props ancestors (at refl)) ∙ and-false (is "rPr" tag)
no_mark_props ancestors false tag at i = ap (λ b. b && within ("pPr" ∷ "p" ∷ []) ancestors) (has-not "rPr" false tag i refl)

kept_5 : IsKept test_5
kept_5 ancestors in_run tag kids at i h =
    and_from _ _
    (and_from _ _
    (and_from _ _
    (ap (λ b. implies (b && within ("p" ∷ []) ancestors) (once "rPr" kids)) (has-not "pPr" in_run tag i refl))
    (ap (λ b. implies b (each_once ("ins" ∷ "del" ∷ "moveFrom" ∷ "moveTo" ∷ []) kids)) (no_mark_props ancestors in_run tag at i)))
    (ap (λ b. implies (b && within ("tr" ∷ []) ancestors) (each_once ("ins" ∷ "del" ∷ []) kids)) (has-not "trPr" in_run tag i refl)))
    (ap (λ b. implies (b && within ("tc" ∷ []) ancestors) (each_once ("cellIns" ∷ "cellDel" ∷ []) kids)) (has-not "tcPr" in_run tag i refl))

kept_6 : IsKept test_6
kept_6 ancestors in_run tag kids at i h =
    rw (has-not "p" in_run tag i refl, has-not "tr" in_run tag i refl, has-not "tc" in_run tag i refl, has-not "body" in_run tag i refl, has-not "sdt" in_run tag i refl) refl

kept_7 : (has_id : List ℕ → Bool) → IsKept (test_7 has_id)
kept_7 has_id ancestors in_run tag kids at i h = ap (λ b. implies b (not (has_element kids))) (no_marker has_id ancestors in_run tag i)

no_banned_below : (in_run : Bool) (tag : Tag) → Idle in_run tag → is_banned_below_change tag ≡ false
no_banned_below in_run tag i =
    or_from (is_some (prop_of tag)) (is_any ("p" ∷ "tbl" ∷ "tr" ∷ "tc" ∷ "txbxContent" ∷ []) tag)
    (ap is_some (no_prop in_run tag i)) (names_none ("p" ∷ "tbl" ∷ "tr" ∷ "tc" ∷ "txbxContent" ∷ []) in_run refl tag i)

kept_8 : IsKept test_8
kept_8 ancestors in_run tag kids at i h = ap (λ b. implies b (not (below_change ancestors))) (no_banned_below in_run tag i)

kept_9 : (declares : List ℕ → Bool) → IsKept (test_9 declares)
kept_9 declares ancestors in_run tag kids at i h =
    and_from _ _
    (ap (λ (k : Kind). implies (open_one "p" ancestors tag || is_content k || is_change k) (not (declares tag.tail))) (no_role ancestors in_run tag i)
    ∙ ap (λ b. implies ((b && is_open ancestors) || false || false) (not (declares tag.tail))) (has-not "p" in_run tag i refl))
    (ap (λ (k : Kind). not (change_declares declares k kids)) (no_role ancestors in_run tag i))

-- rules that idle elements keep
abbrev pub AreKept : List Test → Type 0
AreKept [] = Unit {0}
AreKept (test ∷ rules) = IsKept test × AreKept rules

pub tests_are_kept : (has_id declares : List ℕ → Bool) → AreKept (tests has_id declares)
tests_are_kept has_id declares = (kept_1, (kept_2, (kept_3, (kept_4, (kept_5, (kept_6, (kept_7 has_id, (kept_8, (kept_9 declares, tt)))))))))
