-- Flat nodes tell nothing of a revision of which an excerpt is made.
use Rattle.std.proofs.Common.{◌≡◌, ◌∙◌, refl, sym, ap, ℕ, List, [], ◌++◌, append-nil, Bool, true, false, Option, ◌&&◌, ◌==◌, not, if◌then◌else◌}
use Rattle.std.proofs.lemmas.Bool.{and_parts, eqb-true}
use Rattle.redl_tree.specs.Model.IdleTexts.{idle_nodes}
use Rattle.redl_tree.specs.Model.Nodes.{Nodes, no_nodes, bytes, element, Item, bytes_item, element_item, idle_item, in_front, ◌⊕◌}
use Rattle.redl_tree.specs.Roles.Idle.{is_idle_in}
use Rattle.redl_tree.specs.Roles.Names.{is}
use Rattle.redl_tree.proofs.Idle.Items.{nodes_are_idle}
use Rattle.redl_tree.proofs.Idle.Tags.{idle_parts, has-not}
use Rattle.redl_tree.proofs.Model.Laws.{⊕-no_nodes}
use Rattle.redl_excerpts.specs.declared.excerpt.Excerpt.{Excerpt}
use Rattle.redl_excerpts.specs.Excerpts.{is_made}
use Rattle.redl_excerpts.specs.Inside.Flat.{are_flat, is_flat}
use Rattle.redl_excerpts.specs.Mentions.{Mention, Where, bytes_said, inside, mentions, past, told_by}
use Rattle.redl_said.specs.Said.{element_said}
use Rattle.redl_excerpts.proofs.MentionLaws.{mentions-⊕}

-- ---- many nodes, one after another

flat_past : (excerpts : List (Option Excerpt)) (in_run : Bool) (x y : Nodes) → is_idle_in in_run x ≡ true → are_flat excerpts (x ⊕ y) ≡ are_flat excerpts y
flat_past excerpts in_run no_nodes y h = refl
flat_past excerpts in_run (bytes b rest) y h = flat_past excerpts in_run rest y h
flat_past excerpts in_run (element tag kids rest) y h =
    let p = idle_parts in_run tag kids rest h in
    let below : are_flat excerpts kids ≡ true = ap (are_flat excerpts) (sym (⊕-no_nodes kids)) ∙ flat_past excerpts (is "r" tag) kids no_nodes p.below in
    ap (λ (n : ℕ). ((not (is_made excerpts n) && not (is "p" tag)) && are_flat excerpts kids) && are_flat excerpts (rest ⊕ y)) p.own.rev
    ∙ ap (λ b. (not b && are_flat excerpts kids) && are_flat excerpts (rest ⊕ y)) (has-not "p" in_run tag p.own refl)
    ∙ ap (λ b. b && are_flat excerpts (rest ⊕ y)) below ∙ flat_past excerpts in_run rest y p.later

pub flat-in_front : (excerpts : List (Option Excerpt)) (x : Item) (ys : Nodes) → are_flat excerpts (in_front x ys) ≡ (is_flat excerpts x && are_flat excerpts ys)
flat-in_front excerpts (bytes_item b) ys = refl
flat-in_front excerpts (element_item tag kids) ys = refl
flat-in_front excerpts (idle_item t) ys = flat_past excerpts false (idle_nodes t) ys (nodes_are_idle t)

-- ---- they tell nothing

-- the number of a revision of which no excerpt is made is that of no other one
not_made : (excerpts : List (Option Excerpt)) (number v : ℕ) → not (is_made excerpts number) ≡ true → is_made excerpts v ≡ true → (number == v) ≡ false
not_made excerpts number v none made = by (number == v) refl where
  by : (b : Bool) → (number == v) ≡ b → b ≡ false
  by true e = let same : is_made excerpts number ≡ true = ap (is_made excerpts) (eqb-true number v e) ∙ made in let never : not true ≡ true = sym (ap not same) ∙ none in cc
  by false e = refl

pub flat_mentions : (excerpts : List (Option Excerpt)) (moved : Bool) (v : ℕ) (here : Where) (x : Nodes) → is_made excerpts v ≡ true → are_flat excerpts x ≡ true → mentions moved v here x ≡ []
flat_mentions excerpts moved v here no_nodes made h = refl
flat_mentions excerpts moved v here (bytes b rest) made h = flat_mentions excerpts moved v (past here (bytes_said here.in_text b)) rest made h
flat_mentions excerpts moved v here (element tag kids rest) made h =
    let both = and_parts ((not (is_made excerpts tag.rev) && not (is "p" tag)) && are_flat excerpts kids) (are_flat excerpts rest) h in
    let own = and_parts (not (is_made excerpts tag.rev) && not (is "p" tag)) (are_flat excerpts kids) both.0 in
    let none : (tag.rev == v) ≡ false = not_made excerpts tag.rev v (and_parts (not (is_made excerpts tag.rev)) (not (is "p" tag)) own.0).0 made in
    let there = inside here tag kids in
    let later = mentions moved v (past here (element_said true tag kids)) rest in
    ap (λ (ms : List Mention). (ms ++ mentions moved v there kids) ++ later) (ap (λ b. if b then told_by moved here tag.kind tag kids else []) none)
    ∙ ap (λ (ms : List Mention). ms ++ later) (flat_mentions excerpts moved v there kids made own.1)
    ∙ flat_mentions excerpts moved v (past here (element_said true tag kids)) rest made both.1

-- nodes tell what they tell without a flat one after them
pub mentions_before : (excerpts : List (Option Excerpt)) (moved : Bool) (v : ℕ) (here : Where) (xs : Nodes) (x : Item) → is_made excerpts v ≡ true → is_flat excerpts x ≡ true → mentions moved v here (xs ⊕ in_front x no_nodes) ≡ mentions moved v here xs
mentions_before excerpts moved v here xs x made h =
    let flat : are_flat excerpts (in_front x no_nodes) ≡ true = flat-in_front excerpts x no_nodes ∙ ap (λ b. b && true) h in
    mentions-⊕ moved v here xs (in_front x no_nodes)
    ∙ ap (λ (ms : List Mention). mentions moved v here xs ++ ms) (flat_mentions excerpts moved v _ (in_front x no_nodes) made flat)
    ∙ append-nil (mentions moved v here xs)
