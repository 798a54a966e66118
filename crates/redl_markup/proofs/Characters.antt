-- The test of a whole text.
use Rattle.std.proofs.Common.{◌≡◌, ◌≢◌, ℕ, ◌<◌, ◌≤◌, ◌+◌, ◌/◌, ◌%◌, Bool, true, false, ltb, eqb, List, [], ◌∷◌, refl, sym, ap, ◌∙◌, arith, IsTrue, ◌⊎◌, inl, inr}
use Rattle.std.specs.Prelude.{encode_utf8}
use Rattle.std.proofs.lemmas.Bool.{ltb-true, ltb-false, eqb-false, and_parts, and_from, cases_Bool}
use Rattle.std.specs.List.{list_all}
use Rattle.std.specs.Str.{IsUtf8, chars, encode_utf8_all}
use Rattle.std.proofs.lemmas.Bool.Decides.{nat_tests}
use Rattle.std.proofs.lemmas.Str.{chars-encodes, encodes-chars}
use lib.Utf8.{scalar, scalars, encode}
use Rattle.redl_reading.proofs.Runs.{list_all-parts}
use Rattle.redl_grammar.specs.Characters.{is_character, is_plain_byte, IsText}

pub character_scalar : (c : ℕ) → is_character c ≡ true → scalar c ≡ true
unfolding is_character
character_scalar c h = grind (arith, nat_tests)

each_scalar : (cs : List ℕ) → list_all is_character cs ≡ true → scalars cs ≡ true
each_scalar [] h = refl
each_scalar (c ∷ cs) h =
    let both = and_parts (is_character c) (list_all is_character cs) h in
    and_from _ _ (character_scalar c both.0) (each_scalar cs both.1)

-- a text is UTF-8
pub text_is_utf8 : (bs : List ℕ) → IsText bs → IsUtf8 bs
text_is_utf8 bs h = (h.characters, (each_scalar h.characters h.each, sym h.whole))

text_of : (bs : List ℕ) → IsUtf8 bs → list_all is_character (chars bs) ≡ true → IsText bs
text_of bs u h = record { characters = chars bs; each = h; whole = sym (encodes-chars bs u) }

pub of_text : (bs : List ℕ) → IsText bs → list_all is_character (chars bs) ≡ true
of_text bs h = rw (ap chars h.whole ∙ chars-encodes h.characters (each_scalar h.characters h.each)) h.each

-- the test of the characters tells whether bytes in UTF-8 are a text
pub tests_text : (bs : List ℕ) (r : Bool) → IsUtf8 bs → r ≡ list_all is_character (chars bs) → (IsTrue r → IsText bs) × (IsText bs → IsTrue r)
tests_text bs r u e = (λ t. text_of bs u (sym e ∙ t), λ h. e ∙ of_text bs h)

-- ---- bytes with which no forbidden character begins

pub plain_low : (c : ℕ) → c < 128 → is_plain_byte c ≡ true → is_character c ≡ true
unfolding is_plain_byte is_character
plain_low c low h = grind (arith, nat_tests)

character_high : (c : ℕ) → scalar c ≡ true → 128 ≤ c → ((c < 61440) ⊎ (65536 ≤ c)) → is_character c ≡ true
unfolding is_character
character_high c s low (inl h) = grind (arith, nat_tests)
character_high c s low (inr h) = grind (arith, nat_tests)

plain_first : (b : ℕ) (bs : List ℕ) → list_all is_plain_byte (b ∷ bs) ≡ true → eqb b 239 ≡ false
unfolding is_plain_byte
plain_first b bs h = let here = (and_parts (is_plain_byte b) (list_all is_plain_byte bs) h).0 in grind (arith, nat_tests)

plain_char : (c : ℕ) → scalar c ≡ true → list_all is_plain_byte (encode c) ≡ true → is_character c ≡ true
unfolding encode
plain_char c s h =
    elim (cases_Bool (ltb c 128)) [
      | inl a ↦ plain_low c (ltb-true c 128 a) (and_parts (is_plain_byte c) true (rw a at h)).0
      | inr a ↦ elim (cases_Bool (ltb c 2048)) [
        | inl b ↦ character_high c s (omega (arith, ltb-false c 128 a)) (inl (omega (arith, ltb-true c 2048 b)))
        | inr b ↦ elim (cases_Bool (ltb c 65536)) [
          | inl d ↦
              let first = eqb-false (224 + c / 4096) 239 (plain_first (224 + c / 4096) ((128 + c / 64 % 64) ∷ (128 + c % 64) ∷ []) (rw (a, b, d) at h)) in
              character_high c s (omega (arith, ltb-false c 128 a)) (inl (below c (ltb-true c 65536 d) first))
          | inr d ↦ character_high c s (omega (arith, ltb-false c 128 a)) (inr (omega (arith, ltb-false c 65536 d)))
        ]
      ]
    ] where
      below : (c : ℕ) → c < 65536 → (224 + c / 4096 ≢ 239) → c < 61440
      below c lt other = elim (cases_Bool (ltb c 61440)) [
        | inl h ↦ ltb-true c 61440 h
        | inr h ↦ absurd (other (let low = ltb-false c 61440 h in omega (arith, low, lt)))
      ]

plain_chars : (cs : List ℕ) → scalars cs ≡ true → list_all is_plain_byte (encode_utf8_all cs) ≡ true → list_all is_character cs ≡ true
plain_chars [] s h = refl
plain_chars (c ∷ cs) s h =
    let are = and_parts (scalar c) (scalars cs) s in
    let parts = list_all-parts is_plain_byte (encode_utf8 c) (encode_utf8_all cs) h in
    and_from _ _ (plain_char c are.0 parts.0) (plain_chars cs are.1 parts.1)

pub plain_text : (bs : List ℕ) → IsUtf8 bs → list_all is_plain_byte bs ≡ true → IsText bs
plain_text bs u h = record { characters = u.0; each = plain_chars u.0 u.1.0 (ap (list_all is_plain_byte) u.1.1 ∙ h); whole = sym u.1.1 }
