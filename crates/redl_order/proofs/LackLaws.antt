-- A text without the word in which the name of each reference ends has no reference.
use Rattle.std.proofs.Common.{◌≡◌, ℕ, List, [], ◌++◌, Bool, true, false, true≢false, codes, bytes_eq, Option, None, refl, sym, ap, ◌∙◌, if◌then◌else◌}
use Rattle.std.proofs.lemmas.Slice.Eq.{bytes_eq-Decides}
use Rattle.redl_reading.specs.Lists.{lacks}
use Rattle.redl_pairs.proofs.ElementLaws.{lacking}
use Rattle.redl_pairs.proofs.WordLaws.{lacks-rest}
use Rattle.redl_tree.specs.Model.Nodes.{Tag, Nodes, no_nodes, bytes, element}
use Rattle.redl_tree.specs.Model.Text.{text}
use Rattle.redl_tree.specs.Model.Laid.{AreLaid}
use Rattle.redl_tree.specs.Roles.Names.{is_w}
use Rattle.redl_tree.specs.declared.kinds.Space.TheVariants.{W}
use Rattle.redl_order.specs.References.{named_kind, reference_to, named_of, references}
use Rattle.redl_order.specs.declared.reference.Named.{Named}
use Rattle.redl_order.specs.declared.reference.Reference.{Reference}

-- ---- names

abbrev word : List ℕ
word = codes "Reference"

other : (local name : List ℕ) → lacks word name ≡ false → bytes_eq local name ≡ true → lacks word local ≡ true → ⊥
other local name has e h = true≢false (sym h ∙ ap (lacks word) ((bytes_eq-Decides local name).0 e) ∙ has)

names_nothing : (local : List ℕ) → lacks word local ≡ true → named_kind local ≡ None
names_nothing local h =
    at (bytes_eq local (codes "headerReference")) (bytes_eq local (codes "footerReference")) (bytes_eq local (codes "footnoteReference")) (bytes_eq local (codes "endnoteReference"))
    refl refl refl refl
  where
    at : (a b c d : Bool) → bytes_eq local (codes "headerReference") ≡ a → bytes_eq local (codes "footerReference") ≡ b
        → bytes_eq local (codes "footnoteReference") ≡ c → bytes_eq local (codes "endnoteReference") ≡ d → named_kind local ≡ None
    at true b c d e f g k = absurd (other local (codes "headerReference") refl e h)
    at false true c d e f g k = absurd (other local (codes "footerReference") refl f h)
    at false false true d e f g k = absurd (other local (codes "footnoteReference") refl g h)
    at false false false true e f g k = absurd (other local (codes "endnoteReference") refl k h)
    at false false false false e f g k = rw (e, f, g, k) refl

same_both : {X : Type 0} (b : Bool) (x : X) → (if b then x else x) ≡ x
same_both true x = refl
same_both false x = refl

names_none : (tag : Tag) → lacks word tag.local ≡ true → named_of tag ≡ []
names_none tag h =
    ap (λ (kind : Option Named). if is_w tag.space then reference_to tag.tail kind else []) (names_nothing tag.local h) ∙ same_both (is_w tag.space) []

-- ---- nodes

pub none_named : (nodes : Nodes) → AreLaid W nodes → lacks word (text nodes) ≡ true → references nodes ≡ []
none_named no_nodes laid h = refl
none_named (bytes b rest) laid h = none_named rest laid.2 (lacks-rest 82 (codes "eference") b (text rest) h)
none_named (element tag kids rest) laid h =
    let parts = lacking 82 (codes "eference") tag kids rest laid.1 h in
    ap (λ (rs : List Reference). (rs ++ references kids) ++ references rest) (names_none tag parts.local)
    ∙ ap (λ (rs : List Reference). rs ++ references rest) (none_named kids laid.2 parts.below) ∙ none_named rest laid.3 parts.later
