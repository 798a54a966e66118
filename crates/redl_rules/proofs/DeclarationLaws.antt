-- A tail without an `x`, or without an `n`, declares nothing.
use Rattle.std.proofs.Common.{◌≡◌, ◌∙◌, ap, sym, ℕ, true, false, true≢false, List, [], ◌∷◌, refl}
use Rattle.std.specs.Prelude.{bytes_eq, codes}
use Rattle.std.specs.List.{list_all, list_any}
use Rattle.redl_grammar.specs.Names.{Name}
use Rattle.redl_reading.specs.Lists.{is_other}
use Rattle.redl_markup.specs.Attributes.{attributes_of}
use Rattle.std.proofs.lemmas.Bool.{and_parts, false_from_ne_true}
use Rattle.std.proofs.Math.Bool.{and-false}
use Rattle.redl_tree.proofs.Reading.SameBytes.{same_bytes}
use Rattle.redl_markup.proofs.Listing.{name_passes, names_pass}
use Rattle.redl_rules.specs.Attributes.{is_declaration, declares}

-- a byte of `xmlns`
module _ (byte : ℕ) (is_in : list_all (is_other byte) (codes "xmlns") ≡ false) where
  is_not_xmlns : (word : List ℕ) → list_all (is_other byte) word ≡ true → bytes_eq word (codes "xmlns") ≡ false
  is_not_xmlns word h =
      false_from_ne_true (bytes_eq word (codes "xmlns"))
      (λ same. true≢false (sym h ∙ ap (list_all (is_other byte)) (same_bytes word (codes "xmlns") same) ∙ is_in))

  is_no_declaration : (attribute : Name × List ℕ) → name_passes (is_other byte) attribute.0 ≡ true → is_declaration attribute ≡ false
  is_no_declaration attribute h =
      let name = attribute.0 in
      let both = and_parts (list_all (is_other byte) name.prefix) (list_all (is_other byte) name.local) h in
      rw (is_not_xmlns name.prefix both.0, is_not_xmlns name.local both.1) (and-false (bytes_eq name.prefix []))

  none_declares : (attributes : List (Name × List ℕ)) → list_all (λ a. name_passes (is_other byte) a.0) attributes ≡ true → list_any is_declaration attributes ≡ false
  none_declares [] h = refl
  none_declares (a ∷ more) h =
      let both = and_parts (name_passes (is_other byte) a.0) (list_all (λ x. name_passes (is_other byte) x.0) more) h in
      rw (is_no_declaration a both.0) (none_declares more both.1)

  without : (tail : List ℕ) → list_all (is_other byte) tail ≡ true → declares tail ≡ false
  without tail h = none_declares (attributes_of tail) (names_pass (is_other byte) tail h)

pub without_x : (tail : List ℕ) → list_all (is_other 120) tail ≡ true → declares tail ≡ false
without_x tail h = without 120 refl tail h

pub without_n : (tail : List ℕ) → list_all (is_other 110) tail ≡ true → declares tail ≡ false
without_n tail h = without 110 refl tail h
