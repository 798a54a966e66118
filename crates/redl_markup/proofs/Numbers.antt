-- The number that digits write, counted up to a bound.
use Rattle.std.proofs.Common.{◌≡◌, ℕ, ◌+◌, ◌*◌, ◌<◌, ◌≤◌, List, [], ◌∷◌, min, refl, sym, ◌∙◌, arith, inl, inr}
use Rattle.std.specs.Int.Digits.{number_from_digits_after}
use Rattle.std.proofs.Common.{None, subst}
use Rattle.std.specs.Char.{IsScalar, digit_value}
use Rattle.std.specs.Prelude.{map}
use Rattle.std.proofs.lemmas.Bool.{cases_lt, cases_Bool}
use Rattle.std.proofs.Math.Bool.{and-false}
use lib.Utf8.{scalar_cases}
use Rattle.redl_markup.specs.declared.reference.TheConstants.{BEYOND}
use Rattle.redl_grammar.specs.Characters.{is_character}
use Rattle.redl_reading.specs.Lists.{front, is_filled}
use Rattle.redl_grammar.specs.References.{is_digit_in, number_of, number_at}
use Rattle.redl_markup.proofs.Characters.{character_scalar}

step_grows : (b m d : ℕ) → 0 < b → m ≤ m * b + d
step_grows b m d pos = grind arith

number_grows : (b m : ℕ) (ds : List ℕ) → 0 < b → m ≤ number_from_digits_after b m ds
number_grows b m [] pos = omega arith
number_grows b m (d ∷ ds) pos = omega (arith, step_grows b m d pos, number_grows b (m * b + d) ds pos)

-- what is beyond the bound stays beyond it
pub number_capped : (b m cap : ℕ) (ds : List ℕ) → 0 < b → min (number_from_digits_after b (min m cap) ds) cap ≡ min (number_from_digits_after b m ds) cap
number_capped b m cap ds pos =
    elim (cases_lt m cap) [
      | inl low ↦ let same : min m cap ≡ m = omega arith in rw same refl
      | inr high ↦
          let same : min m cap ≡ cap = omega arith in
          rw same (omega (arith, number_grows b cap ds pos, number_grows b m ds pos))
    ]

pub number_step : (base number first v : ℕ) (left rest : List ℕ) → 0 < base → left ≡ first ∷ rest → v ≡ min (number * base + digit_value first) BEYOND
    → min (number_from_digits_after base v (map digit_value rest)) BEYOND ≡ min (number_from_digits_after base number (map digit_value left)) BEYOND
number_step base number first v left rest pos split e = rw (split, e) (number_capped base (number * base + digit_value first) BEYOND (map digit_value rest) pos)

-- digits whose number is that of no scalar value write no character
pub number_refused : (base n : ℕ) (bs digits : List ℕ) → digits ≡ front (is_digit_in base) bs → n ≡ min (number_of base digits) BEYOND → (IsScalar n → ⊥) → number_at base bs ≡ None
unfolding number_at
number_refused base n bs digits e f other =
    elim (cases_Bool (is_character (number_of base (front (is_digit_in base) bs)))) [
      | inl character ↦
          let v = number_of base (front (is_digit_in base) bs) in
          let low = scalar_cases v (character_scalar v character) in
          let bound : v < BEYOND = elim low [ inl a ↦ omega arith | inr b ↦ omega arith ] in
          let same : n ≡ v = f ∙ rw e (omega arith) in
          absurd (other (let P : ℕ → Type 0 = λ m. IsScalar m in subst P (sym same) (character_scalar v character)))
      | inr none ↦ rw (none, and-false (is_filled (front (is_digit_in base) bs))) refl
    ]
