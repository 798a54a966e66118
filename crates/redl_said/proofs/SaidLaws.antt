-- What nodes say after others, and bytes that are shown as they are.
use Rattle.std.proofs.Common.{◌≡◌, ◌&&◌, ℕ, Bool, true, List, [], ◌∷◌, ◌++◌, refl, sym, ap, ◌∙◌, append_assoc, if◌then◌else◌}
use Rattle.std.proofs.lemmas.Bool.{and_parts}
use Rattle.std.proofs.lemmas.List.{append-nil}
use Rattle.redl_reading.specs.Lists.{front, after}
use Rattle.redl_shown.specs.declared.parts.Part.TheVariants.{Characters}
use Rattle.redl_shown.specs.Shown.{in_part, is_plain, shown}
use Rattle.redl_shown.proofs.ShownLaws.{shown-plain}
use Rattle.redl_tree.specs.Model.IdleTexts.{idle_nodes}
use Rattle.redl_tree.specs.Model.Nodes.{Nodes, no_nodes, bytes, element, Item, bytes_item, element_item, idle_item, in_front, ◌⊕◌}
use Rattle.redl_said.specs.Said.{all_plain_from, holds_text, is_silent, item_said, said, start_said}

-- nodes after others
pub said-⊕ : (in_line in_text : Bool) (x y : Nodes) → said in_line in_text (x ⊕ y) ≡ said in_line in_text x ++ said in_line in_text y
said-⊕ in_line in_text no_nodes y = refl
said-⊕ in_line in_text (bytes b rest) y =
    let own = if in_text then shown b else [] in
    ap (λ (s : List ℕ). own ++ s) (said-⊕ in_line in_text rest y) ∙ sym (append_assoc own (said in_line in_text rest) (said in_line in_text y))
said-⊕ in_line in_text (element tag kids rest) y =
    let own = if is_silent in_line tag then [] else start_said tag ++ said in_line (holds_text tag) kids in
    ap (λ (s : List ℕ). own ++ s) (said-⊕ in_line in_text rest y) ∙ sym (append_assoc own (said in_line in_text rest) (said in_line in_text y))

pub said-in_front : (in_line in_text : Bool) (item : Item) (rest : Nodes) → said in_line in_text (in_front item rest) ≡ item_said in_line in_text item ++ said in_line in_text rest
said-in_front in_line in_text (bytes_item b) rest = refl
said-in_front in_line in_text (element_item tag kids) rest = refl
said-in_front in_line in_text (idle_item t) rest = said-⊕ in_line in_text (idle_nodes t) rest

-- ---- bytes

plain-parts : (plain : Bool) (bytes : List ℕ) → all_plain_from plain bytes ≡ true → (plain ≡ true) × (front is_plain bytes ≡ bytes) × (after is_plain bytes ≡ [])
plain-parts plain [] h = (h, refl, refl)
plain-parts plain (b ∷ bs) h =
    let later = plain-parts (plain && is_plain b) bs h in
    let both = and_parts plain (is_plain b) later.0 in
    (both.0, rw (both.1, later.1) refl, rw both.1 later.2)

pub shown-all-plain : (text : List ℕ) → all_plain_from true text ≡ true → shown text ≡ text
shown-all-plain text h =
    let parts = plain-parts true text h in
    shown-plain (in_part Characters 0) text refl ∙ rw (parts.1, parts.2) (append-nil text)
