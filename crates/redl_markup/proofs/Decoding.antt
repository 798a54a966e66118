-- What decoding gives: a reference's character and then what follows the reference; from UTF-8 it makes UTF-8.
use Rattle.std.proofs.Common.{◌≡◌, ℕ, ◌<◌, ◌≤◌, Bool, true, false, cond, eqb, ltb, List, [], ◌∷◌, ◌++◌, Option, Some, None, refl, sym, ap, subst, ◌∙◌, append_assoc, arith, inl, inr, ◌⊎◌}
use Rattle.std.specs.Prelude.{not, ◌&&◌, codes, encode_utf8}
use Rattle.std.specs.Char.{IsScalar}
use Rattle.std.specs.List.{list_all}
use Rattle.std.specs.Str.{IsUtf8, encode_utf8_all, all_scalars}
use Rattle.std.proofs.lemmas.Bool.{eqb-true, cases_lt, and_parts, and_from, cases_Bool}
use Rattle.std.proofs.lemmas.Bool.Decides.{nat_tests}
use Rattle.std.proofs.lemmas.List.{append-nil}
use Rattle.std.proofs.lemmas.Option.{same_Some}
use Rattle.std.proofs.lemmas.Str.{IsUtf8-nil, IsUtf8-append, IsUtf8-encode, encode_ascii}
use lib.Utf8.{scalar, encode}
use Rattle.redl_grammar.specs.Characters.{is_character, is_space}
use Rattle.redl_reading.specs.Lists.{behind, begins, front, after, is_filled, is_other}
use Rattle.redl_reading.specs.Steps.{or_else}
use Rattle.redl_grammar.specs.References.{valued, named_at, is_digit_in, number_of, number_at, numbered_by, reference_at}
use Rattle.redl_markup.specs.Decoding.{character_text, decoded_from, decoded_value, is_literal}
use Rattle.redl_markup.proofs.Characters.{character_scalar}
use Rattle.redl_reading.proofs.Runs.{front-after, front_passes}
use Rattle.redl_reading.proofs.Words.{behind_takes}

-- ---- what a reference takes

-- a character, and bytes up to the first `;`
pub record Refers (bs : List ℕ) (c : ℕ) (rest : List ℕ) : Type 0 where
  pub scalar_value : IsScalar c
  pub inner : List ℕ
  pub no_end : list_all (is_other 59) inner ≡ true
  pub whole : bs ≡ inner ++ (59 ∷ rest)

or_else_some : {A : Type 0} (a b : Option A) (x : A) → or_else a b ≡ Some x → (a ≡ Some x) ⊎ (b ≡ Some x)
or_else_some None b x e = inr e
or_else_some (Some y) b x e = inl e

valued_some : (c : ℕ) (o : Option (List ℕ)) (x : ℕ × List ℕ) → valued c o ≡ Some x → (c ≡ x.0) × (o ≡ Some x.1)
valued_some c None x e = absurd cc
valued_some c (Some rest) x e = let same = same_Some (c, rest) x e in (ap (λ (y : ℕ × List ℕ). y.0) same, ap (λ (y : ℕ × List ℕ). Some y.1) same)

name_refers : (c : ℕ) (word bs : List ℕ) (x : ℕ × List ℕ) → IsScalar c → list_all (is_other 59) word ≡ true → valued c (behind (word ++ (59 ∷ [])) bs) ≡ Some x → Refers bs x.0 x.1
name_refers c word bs x scalar_value no_end e =
    let v = valued_some c (behind (word ++ (59 ∷ [])) bs) x e in
    let P : ℕ → Type 0 = λ n. IsScalar n in
    record { scalar_value = subst P v.0 scalar_value; inner = word; no_end = no_end; whole = behind_takes (word ++ (59 ∷ [])) bs x.1 v.1 ∙ append_assoc word (59 ∷ []) x.1 }

named_refers : (bs : List ℕ) (x : ℕ × List ℕ) → named_at bs ≡ Some x → Refers bs x.0 x.1
unfolding named_at
named_refers bs x e =
    elim (or_else_some (valued 38 (behind (codes "amp;") bs)) _ x e) [
      | inl a ↦ name_refers 38 (codes "amp") bs x refl refl a
      | inr e2 ↦ elim (or_else_some (valued 60 (behind (codes "lt;") bs)) _ x e2) [
        | inl a ↦ name_refers 60 (codes "lt") bs x refl refl a
        | inr e3 ↦ elim (or_else_some (valued 62 (behind (codes "gt;") bs)) _ x e3) [
          | inl a ↦ name_refers 62 (codes "gt") bs x refl refl a
          | inr e4 ↦ elim (or_else_some (valued 34 (behind (codes "quot;") bs)) _ x e4) [
            | inl a ↦ name_refers 34 (codes "quot") bs x refl refl a
            | inr a ↦ name_refers 39 (codes "apos") bs x refl refl a
          ]
        ]
      ]
    ]

digits_no_end : (base : ℕ) (ds : List ℕ) → is_digit_in base 59 ≡ false → list_all (is_digit_in base) ds ≡ true → list_all (is_other 59) ds ≡ true
digits_no_end base [] none h = refl
digits_no_end base (d ∷ ds) none h =
    let both = and_parts (is_digit_in base d) (list_all (is_digit_in base) ds) h in
    and_from _ _ (other d both.0) (digits_no_end base ds none both.1) where
      other : (d : ℕ) → is_digit_in base d ≡ true → is_other 59 d ≡ true
      other d h =
          elim (cases_Bool (eqb d 59)) [
            | inl e ↦ absurd (let k : false ≡ true = sym none ∙ ap (is_digit_in base) (sym (eqb-true d 59 e)) ∙ h in cc)
            | inr e ↦ rw e refl
          ]

number_refers : (base : ℕ) (bs : List ℕ) (x : ℕ × List ℕ) → is_digit_in base 59 ≡ false → number_at base bs ≡ Some x → Refers bs x.0 x.1
unfolding number_at
number_refers base bs x none e =
    let digits = front (is_digit_in base) bs in
    let n = number_of base digits in
    let c = cond_valued (is_filled digits && is_character n) (valued n (behind (codes ";") (after (is_digit_in base) bs))) x e in
    let v = valued_some n (behind (codes ";") (after (is_digit_in base) bs)) x c.1 in
    let P : ℕ → Type 0 = λ m. IsScalar m in
    record {
      scalar_value = subst P v.0 (character_scalar n (and_parts (is_filled digits) (is_character n) c.0).1);
      inner = digits;
      no_end = digits_no_end base digits none (front_passes (is_digit_in base) bs);
      whole = sym (front-after (is_digit_in base) bs) ∙ ap (λ (z : List ℕ). digits ++ z) (behind_takes (codes ";") (after (is_digit_in base) bs) x.1 v.1);
    } where
      cond_valued : (t : Bool) (o : Option (ℕ × List ℕ)) (x : ℕ × List ℕ) → cond t o None ≡ Some x → (t ≡ true) × (o ≡ Some x)
      cond_valued true o x e = (refl, e)
      cond_valued false o x e = absurd cc

-- more bytes before the digits
refers_behind : (word bs more : List ℕ) (x : ℕ × List ℕ) → list_all (is_other 59) word ≡ true → behind word bs ≡ Some more → Refers more x.0 x.1 → Refers bs x.0 x.1
refers_behind word bs more x no_end e r =
    record {
      scalar_value = r.scalar_value;
      inner = word ++ r.inner;
      no_end = both_pass word no_end;
      whole = behind_takes word bs more e ∙ ap (λ (z : List ℕ). word ++ z) r.whole ∙ sym (append_assoc word r.inner (59 ∷ x.1));
    } where
      both_pass : (w : List ℕ) → list_all (is_other 59) w ≡ true → list_all (is_other 59) (w ++ r.inner) ≡ true
      both_pass [] h = r.no_end
      both_pass (b ∷ w) h = let both = and_parts (is_other 59 b) (list_all (is_other 59) w) h in and_from _ _ both.0 (both_pass w both.1)

by_number_refers : (bs : List ℕ) (a b : Option (List ℕ)) (x : ℕ × List ℕ) → behind (codes "#x") bs ≡ a → behind (codes "#") bs ≡ b → numbered_by a b ≡ Some x → Refers bs x.0 x.1
by_number_refers bs (Some more) b x ea eb e = refers_behind (codes "#x") bs more x refl ea (number_refers 16 more x refl e)
by_number_refers bs None (Some more) x ea eb e = refers_behind (codes "#") bs more x refl eb (number_refers 10 more x refl e)
by_number_refers bs None None x ea eb e = absurd cc

pub reference_refers : (bs : List ℕ) (x : ℕ × List ℕ) → reference_at bs ≡ Some x → Refers bs x.0 x.1
unfolding reference_at
reference_refers bs x e =
    elim (or_else_some (named_at bs) _ x e) [
      | inl a ↦ named_refers bs x a
      | inr b ↦ by_number_refers bs (behind (codes "#x") bs) (behind (codes "#") bs) x refl refl b
    ]

-- ---- decoding of references

past_end : (inner rest : List ℕ) → list_all (is_other 59) inner ≡ true → decoded_from true (inner ++ (59 ∷ rest)) ≡ decoded_from false rest
past_end [] rest h = refl
past_end (b ∷ bs) rest h =
    let both = and_parts (is_other 59 b) (list_all (is_other 59) bs) h in
    ap (λ (t : Bool). decoded_from t (bs ++ (59 ∷ rest))) both.0 ∙ past_end bs rest both.1

-- a reference becomes its character, and decoding goes on after its `;`
pub decoded-reference : (bs : List ℕ) (c : ℕ) (rest : List ℕ) → reference_at bs ≡ Some (c, rest) → decoded_value (38 ∷ bs) ≡ encode_utf8 c ++ decoded_value rest
decoded-reference bs c rest e =
    let r = reference_refers bs (c, rest) e in
    let behind_it : decoded_from true bs ≡ decoded_from false rest = ap (decoded_from true) r.whole ∙ past_end r.inner rest r.no_end in
    rw (e, behind_it) refl

-- ---- decoding of a value without references and without white space but spaces

blank_is_space : is_space 32 ≡ true
unfolding is_space
blank_is_space = refl

literal_is_no_space : (b : ℕ) → is_literal b ≡ true → eqb b 32 ≡ false → is_space b ≡ false
unfolding is_space
literal_is_no_space b h other = grind (arith, nat_tests)

literal_byte : (b : ℕ) (bs : List ℕ) → is_literal b ≡ true → decoded_from false (b ∷ bs) ≡ b ∷ decoded_from false bs
literal_byte b bs h =
    let no_sign : eqb b 38 ≡ false = grind (arith, nat_tests) in
    let no_return : eqb b 13 ≡ false = grind (arith, nat_tests) in
    elim (cases_Bool (eqb b 32)) [
      | inl blank ↦ rw (eqb-true b 32 blank, blank_is_space) refl
      | inr other ↦ rw (no_sign, no_return, literal_is_no_space b h other) refl
    ]

-- such a value decodes to itself
pub decoded_literal : (value : List ℕ) → list_all is_literal value ≡ true → decoded_value value ≡ value
decoded_literal [] h = refl
decoded_literal (b ∷ bs) h =
    let both = and_parts (is_literal b) (list_all is_literal bs) h in
    literal_byte b bs both.0 ∙ ap (λ (z : List ℕ). b ∷ z) (decoded_literal bs both.1)

-- ---- decoding of UTF-8

high_other : (b : ℕ) → 128 ≤ b → (eqb b 38 ≡ false) × (eqb b 13 ≡ false) × (is_space b ≡ false) × (eqb b 59 ≡ false)
unfolding is_space
high_other b h = (grind (arith, nat_tests), grind (arith, nat_tests), grind (arith, nat_tests), grind (arith, nat_tests))

abbrev AreHigh : List ℕ → Type 0
AreHigh [] = Unit {0}
AreHigh (b ∷ bs) = (128 ≤ b) × AreHigh bs

high_bytes : (hs rest : List ℕ) → AreHigh hs → (decoded_from true (hs ++ rest) ≡ decoded_from true rest) × (decoded_from false (hs ++ rest) ≡ hs ++ decoded_from false rest)
high_bytes [] rest h = (refl, refl)
high_bytes (b ∷ hs) rest h =
    let other = high_other b h.0 in
    let more = high_bytes hs rest h.1 in
    (ap (λ (t : Bool). decoded_from (not t) (hs ++ rest)) other.3 ∙ more.0, rw (other.0, other.1, other.2) (ap (λ (z : List ℕ). b ∷ z) more.1))

encode_high : (c : ℕ) → 128 ≤ c → AreHigh (encode c)
unfolding encode
encode_high c h =
    let not_low : ltb c 128 ≡ false = grind (arith, nat_tests) in
    elim (cases_Bool (ltb c 2048)) [
      | inl b ↦ rw (not_low, b) (omega arith, (omega arith, tt))
      | inr b ↦ elim (cases_Bool (ltb c 65536)) [
        | inl d ↦ rw (not_low, b, d) (omega arith, (omega arith, (omega arith, tt)))
        | inr d ↦ rw (not_low, b, d) (omega arith, (omega arith, (omega arith, (omega arith, tt))))
      ]
    ]

ascii_utf8 : (b : ℕ) (bs : List ℕ) → b < 128 → IsUtf8 bs → IsUtf8 (b ∷ bs)
ascii_utf8 b bs low u =
    let one : IsUtf8 (b ∷ []) = let P : List ℕ → Type 0 = λ z. IsUtf8 z in subst P (encode_ascii b low) (IsUtf8-encode b (low_is_scalar b low)) in
    IsUtf8-append (b ∷ []) bs one u where
      low_is_scalar : (b : ℕ) → b < 128 → IsScalar b
      low_is_scalar b low = grind (arith, nat_tests)

character_utf8 : (bs : List ℕ) (o : Option (ℕ × List ℕ)) → reference_at bs ≡ o → IsUtf8 (character_text o)
character_utf8 bs None e = IsUtf8-nil
character_utf8 bs (Some x) e = IsUtf8-encode x.0 (reference_refers bs x e).scalar_value

-- one ASCII byte, whose rest decodes to UTF-8 in either state
ascii_decodes : (in_reference : Bool) (b : ℕ) (rest : List ℕ) → b < 128 → ((s : Bool) → IsUtf8 (decoded_from s rest)) → IsUtf8 (decoded_from in_reference (b ∷ rest))
ascii_decodes true b rest low go = go (not (eqb b 59))
ascii_decodes false b rest low go =
    elim (cases_Bool (eqb b 38)) [
      | inl sign ↦ rw sign (IsUtf8-append (character_text (reference_at rest)) (decoded_from true rest) (character_utf8 rest (reference_at rest) refl) (go true))
      | inr other ↦ elim (cases_Bool (eqb b 13 && begins (10 ∷ []) rest)) [
        | inl line ↦ rw (other, line) (go false)
        | inr not_line ↦ elim (cases_Bool (is_space b)) [
          | inl space ↦ rw (other, not_line, space) (ascii_utf8 32 (decoded_from false rest) (omega arith) (go false))
          | inr letter ↦ rw (other, not_line, letter) (ascii_utf8 b (decoded_from false rest) low (go false))
        ]
      ]
    ]

high_decodes : (in_reference : Bool) (c : ℕ) (rest : List ℕ) → 128 ≤ c → IsScalar c → ((s : Bool) → IsUtf8 (decoded_from s rest)) → IsUtf8 (decoded_from in_reference (encode c ++ rest))
high_decodes true c rest high scalar_value go = rw (high_bytes (encode c) rest (encode_high c high)).0 (go true)
high_decodes false c rest high scalar_value go = rw (high_bytes (encode c) rest (encode_high c high)).1 (IsUtf8-append (encode c) (decoded_from false rest) (IsUtf8-encode c scalar_value) (go false))

all_decode : (cs : List ℕ) → all_scalars cs ≡ true → (s : Bool) → IsUtf8 (decoded_from s (encode_utf8_all cs))
all_decode [] h s = IsUtf8-nil
all_decode (c ∷ cs) h s =
    let are = and_parts (scalar c) (all_scalars cs) h in
    elim (cases_lt c 128) [
      | inl low ↦ let P : List ℕ → Type 0 = λ z. IsUtf8 (decoded_from s (z ++ encode_utf8_all cs)) in subst P (sym (encode_ascii c low)) (ascii_decodes s c (encode_utf8_all cs) low (all_decode cs are.1))
      | inr high ↦ high_decodes s c (encode_utf8_all cs) high are.0 (all_decode cs are.1)
    ]

-- decoding makes UTF-8 from UTF-8
pub decoded_is_utf8 : (value : List ℕ) → IsUtf8 value → IsUtf8 (decoded_value value)
decoded_is_utf8 value u = let P : List ℕ → Type 0 = λ z. IsUtf8 (decoded_value z) in subst P u.1.1 (all_decode u.0 u.1.0 false)

-- at the end of a value all of it is decoded
pub all_made : (made value left : List ℕ) (s : Bool) → made ++ decoded_from s left ≡ decoded_value value → left ≡ [] → made ≡ decoded_value value
all_made made value left s e empty = sym (append-nil made) ∙ ap (λ (z : List ℕ). made ++ decoded_from s z) (sym empty) ∙ e
