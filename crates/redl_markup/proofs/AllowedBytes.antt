-- Bytes of UTF-8 with which no forbidden character begins are a text.
use Rattle.std.proofs.Common.{◌≡◌, ◌≢◌, ℕ, ◌<◌, ◌≤◌, Bool, true, false, ltb, eqb, List, [], ◌∷◌, ◌++◌, length, refl, sym, ap, ◌∙◌, inl, inr, arith}
use Rattle.std.specs.Prelude.{not, ◌&&◌, ◌||◌, encode_utf8}
use Rattle.std.specs.List.{list_all}
use Rattle.std.specs.Str.{IsUtf8, encode_utf8_all}
use Rattle.std.proofs.lemmas.Bool.{ltb-true, ltb-false, eqb-true, eqb-false, and_parts, and_from, cases_Bool}
use Rattle.std.proofs.lemmas.Bool.Decides.{nat_tests}
use lib.Utf8.{scalar, scalars, encode}
use Rattle.redl_reading.specs.Lists.{after}
use Rattle.redl_grammar.specs.Characters.{is_character, is_plain_byte, IsText}
use Rattle.redl_markup.specs.Inside.Characters.{ends_noncharacter, are_allowed}

-- from the first byte with which a forbidden character may begin
pub allowed_after : (bs : List ℕ) → are_allowed (after is_plain_byte bs) ≡ are_allowed bs
allowed_after [] = refl
allowed_after (b ∷ bs) =
    elim (cases_Bool (is_plain_byte b)) [
      | inl plain ↦ rw plain (allowed_after bs)
      | inr other ↦ ap are_allowed (let stays : after is_plain_byte (b ∷ bs) ≡ b ∷ bs = rw other refl in stays)
    ]

-- past the first byte of another character than those two
pub allowed_step : (b : ℕ) (bs rest : List ℕ) → rest ≡ b ∷ bs → b ≡ 239 → ends_noncharacter bs ≡ false → are_allowed bs ≡ are_allowed rest
unfolding is_plain_byte
allowed_step b bs rest e first other = sym (ap are_allowed (e ∙ ap (λ (c : ℕ). c ∷ bs) first) ∙ rw other refl)

pub after_short : (p : ℕ → Bool) (bs : List ℕ) → length (after p bs) ≤ length bs
after_short p [] = omega arith
after_short p (b ∷ bs) =
    elim (cases_Bool (p b)) [
      | inl passes ↦ rw passes (omega (arith, after_short p bs))
      | inr stops ↦ rw stops (omega arith)
    ]

allowed_behind : (xs more : List ℕ) → are_allowed (xs ++ more) ≡ true → are_allowed more ≡ true
allowed_behind [] more h = h
allowed_behind (x ∷ xs) more h = allowed_behind xs more (and_parts (is_plain_byte x || (eqb x 239 && not (ends_noncharacter (xs ++ more)))) (are_allowed (xs ++ more)) h).1

low_first : (c : ℕ) (t : Bool) → c < 128 → (is_plain_byte c || (eqb c 239 && t)) ≡ true → is_character c ≡ true
unfolding is_plain_byte is_character
low_first c t low h = grind (arith, nat_tests)

high_other : (c : ℕ) → scalar c ≡ true → 128 ≤ c → c ≢ 65534 → c ≢ 65535 → is_character c ≡ true
unfolding is_character
high_other c s high a b = grind (arith, nat_tests)

first_is_none : (more : List ℕ) → are_allowed (encode 65534 ++ more) ≡ false
unfolding encode is_plain_byte
first_is_none more = refl

second_is_none : (more : List ℕ) → are_allowed (encode 65535 ++ more) ≡ false
unfolding encode is_plain_byte
second_is_none more = refl

allowed_first : (c : ℕ) (more : List ℕ) → scalar c ≡ true → are_allowed (encode c ++ more) ≡ true → is_character c ≡ true
unfolding encode
allowed_first c more s h =
    elim (cases_Bool (ltb c 128)) [
      | inl a ↦ low_first c (not (ends_noncharacter more)) (ltb-true c 128 a) (and_parts (is_plain_byte c || (eqb c 239 && not (ends_noncharacter more))) (are_allowed more) (rw a at h)).0
      | inr a ↦ high_other c s (omega (arith, ltb-false c 128 a)) (none 65534 (first_is_none more)) (none 65535 (second_is_none more))
    ] where
      none : (n : ℕ) → are_allowed (encode n ++ more) ≡ false → c ≢ n
      none n refused same = absurd (let k : true ≡ false = sym h ∙ ap (λ (m : ℕ). are_allowed (encode m ++ more)) same ∙ refused in cc)

allowed_chars : (cs : List ℕ) → scalars cs ≡ true → are_allowed (encode_utf8_all cs) ≡ true → list_all is_character cs ≡ true
allowed_chars [] s h = refl
allowed_chars (c ∷ cs) s h =
    let are = and_parts (scalar c) (scalars cs) s in
    and_from _ _ (allowed_first c (encode_utf8_all cs) are.0 h) (allowed_chars cs are.1 (allowed_behind (encode_utf8 c) (encode_utf8_all cs) h))

pub allowed_text : (bs : List ℕ) → IsUtf8 bs → are_allowed bs ≡ true → IsText bs
allowed_text bs u h = record { characters = u.0; each = allowed_chars u.0 u.1.0 (ap are_allowed u.1.1 ∙ h); whole = sym u.1.1 }
