-- A text that lacks the words in the names of idle marks has no mark among its nodes.
use Rattle.std.proofs.Common.{◌≡◌, ◌∙◌, refl, sym, ap, ℕ, List, [], ◌∷◌, ◌++◌, Bool, true, false, true≢false, ◌&&◌, ◌||◌, bytes_eq, codes, arith, subst}
use Rattle.std.specs.Prelude.{not}
use Rattle.std.specs.List.{list_all, list_any}
use Rattle.std.proofs.lemmas.Bool.{and_parts, and_from, not-true}
use Rattle.redl_reading.specs.Lists.{lacks}
use Rattle.redl_pairs.proofs.ElementLaws.{lacking}
use Rattle.redl_pairs.proofs.WordLaws.{lacks-rest}
use Rattle.redl_tree.specs.Model.Laid.{AreLaid}
use Rattle.redl_tree.specs.Model.Nodes.{Nodes, no_nodes, bytes, element}
use Rattle.redl_tree.specs.Model.IdleTexts.{is_idle_text, idle_nodes}
use Rattle.redl_tree.specs.Model.Text.{text}
use Rattle.redl_tree.specs.Roles.Idle.{is_idle_in, is_idle_name}
use Rattle.redl_tree.specs.Roles.Names.{is}
use Rattle.redl_tree.specs.declared.kinds.Space.TheVariants.{W}
use Rattle.redl_tree.proofs.Idle.Items.{laid_nodes, nodes_are_idle}
use Rattle.redl_tree.proofs.Idle.Tags.{idle_parts}
use Rattle.redl_tree.proofs.Reading.FoldLaws.{always_laid}
use Rattle.redl_tree.proofs.Reading.SameBytes.{same_bytes}
use Rattle.redl_undecided.specs.Middles.{lacks_middles}
use Rattle.redl_undecided.specs.Undecided.{is_mark_name, mark_names, one_if, undecided_marks}
use Rattle.redl_undecided.proofs.MarkLaws.{own_idle}

-- ---- names

-- no idle name of these lacks both words
abbrev have_middles : Bool → List (List ℕ) → Bool
have_middles in_run names = list_all (λ name. not (is_idle_name in_run name && lacks_middles name)) names

none_of : (in_run : Bool) (local : List ℕ) (names : List (List ℕ)) → have_middles in_run names ≡ true
    → is_idle_name in_run local ≡ true → lacks_middles local ≡ true → list_any (bytes_eq local) names ≡ false
none_of in_run local [] have idle lacking = refl
none_of in_run local (name ∷ names) have idle lacking = by (bytes_eq local name) refl (none_of in_run local names both.1 idle lacking)
  where
    both : (not (is_idle_name in_run name && lacks_middles name) ≡ true) × (have_middles in_run names ≡ true)
    both = and_parts (not (is_idle_name in_run name && lacks_middles name)) (have_middles in_run names) have

    same : local ≡ name → ⊥
    same e =
        let kept = and_from (is_idle_name in_run name) (lacks_middles name) (ap (is_idle_name in_run) (sym e) ∙ idle) (ap lacks_middles (sym e) ∙ lacking) in
        true≢false (sym kept ∙ not-true (is_idle_name in_run name && lacks_middles name) both.0)

    by : (b : Bool) → bytes_eq local name ≡ b → list_any (bytes_eq local) names ≡ false → list_any (bytes_eq local) (name ∷ names) ≡ false
    by true e none = absurd (same (same_bytes local name e))
    by false e none = ap (λ (b : Bool). b || list_any (bytes_eq local) names) e ∙ none

no_mark : (in_run : Bool) (local : List ℕ) → is_idle_name in_run local ≡ true → lacks_middles local ≡ true → is_mark_name local ≡ false
no_mark in_run local idle lacking = none_of in_run local mark_names refl idle lacking

-- ---- nodes

none_in : (in_run : Bool) (x : Nodes) → is_idle_in in_run x ≡ true → AreLaid W x → lacks_middles (text x) ≡ true → undecided_marks x ≡ 0
none_in in_run no_nodes idle laid h = refl
none_in in_run (bytes b rest) idle laid h =
    let both = and_parts (lacks (codes "Change") (b ++ text rest)) (lacks (codes "Xml") (b ++ text rest)) h in
    none_in in_run rest idle laid.2
    (and_from (lacks (codes "Change") (text rest)) (lacks (codes "Xml") (text rest)) (lacks-rest 67 (codes "hange") b (text rest) both.0) (lacks-rest 88 (codes "ml") b (text rest) both.1))
none_in in_run (element tag kids rest) idle laid h =
    let p = idle_parts in_run tag kids rest idle in
    let whole = text (element tag kids rest) in
    let both = and_parts (lacks (codes "Change") whole) (lacks (codes "Xml") whole) h in
    let change = lacking 67 (codes "hange") tag kids rest laid.1 both.0 in
    let xml = lacking 88 (codes "ml") tag kids rest laid.1 both.1 in
    let name = no_mark in_run tag.local p.own.name (and_from (lacks (codes "Change") tag.local) (lacks (codes "Xml") tag.local) change.local xml.local) in
    let below = none_in (is "r" tag) kids p.below laid.2 (and_from (lacks (codes "Change") (text kids)) (lacks (codes "Xml") (text kids)) change.below xml.below) in
    let later = none_in in_run rest p.later laid.3 (and_from (lacks (codes "Change") (text rest)) (lacks (codes "Xml") (text rest)) change.later xml.later) in
    omega (arith, ap one_if (own_idle in_run tag p.own ∙ name), below, later)

pub none_kept : (t : List ℕ) → is_idle_text t ≡ true → lacks_middles (text (idle_nodes t)) ≡ true → undecided_marks (idle_nodes t) ≡ 0
none_kept t is h = none_in false (idle_nodes t) (nodes_are_idle t) (subst (AreLaid W) (laid_nodes t is) (always_laid W t)) h
