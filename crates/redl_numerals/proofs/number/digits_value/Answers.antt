-- Digit after digit.
use Rattle.std.proofs.Common.{◌≡◌, ◌<◌, ◌≤◌, ◌+◌, ◌*◌, ◌^◌, ◌∙◌, ℕ, List, Bool, true, false, true≢false, refl, sym, length, get_or, arith, ap, drop, lit<, leb}
use Rattle.std.specs.Char.{is_ascii_digit}
use Rattle.std.specs.List.{list_all}
use borrow.Author.Tests.{leb-true}
use Rattle.std.specs.Prelude.{◌&&◌}
use Rattle.std.proofs.lemmas.Bool.{and_parts}
use Rattle.std.proofs.lemmas.Bool.Decides.{nat_tests}
use Rattle.std.proofs.lemmas.Grind.{pow_more}
use Rattle.std.proofs.lemmas.List.{at_drop_more, at_drop_all}
use Rattle.std.proofs.lemmas.List.Folds.{list_all_at}
use Rattle.std.proofs.Math.Nat.{pow-le-pow_right}
use Rattle.redl_numerals.specs.Numbers.{digits_value, is_plain_number}
use Rattle.redl_numerals.proofs.number.digits_value.Goals as goal

-- a digit among digits
digit_at : (ds : List ℕ) (i : ℕ) → i < length ds → list_all is_ascii_digit ds ≡ true → is_ascii_digit (get_or ds i 0) ≡ true
digit_at ds i h all = by (is_ascii_digit (get_or ds i 0)) refl where
  by : (b : Bool) → is_ascii_digit (get_or ds i 0) ≡ b → is_ascii_digit (get_or ds i 0) ≡ true
  by true e = e
  by false e = absurd (true≢false (sym all ∙ list_all_at is_ascii_digit ds i 0 h e))

least : (d : ℕ) → is_ascii_digit d ≡ true → 48 ≤ d
least d h = grind (arith, nat_tests)

most : (d : ℕ) → is_ascii_digit d ≡ true → d ≤ 57
most d h = grind (arith, nat_tests)

-- what it is to be one to nine digits
record Plain (ds : List ℕ) : Type 0 where
  few : length ds ≤ 9
  digits : list_all is_ascii_digit ds ≡ true

plain : (ds : List ℕ) → is_plain_number ds ≡ true → Plain ds
plain ds h =
    let p = and_parts (leb 1 (length ds)) (leb (length ds) 9 && list_all is_ascii_digit ds) h in
    let q = and_parts (leb (length ds) 9) (list_all is_ascii_digit ds) p.1 in
    record { few = leb-true (length ds) 9 q.0; digits = q.1 }

pub overflow_sub-units : goal.overflow_sub-units
overflow_sub-units c =
    let ds = c.args.digits.now in
    let i = c.loop-digit.digit-index in
    let digit = digit_at ds i (omega arith) (plain ds c.requires).digits in
    omega (arith, least (get_or ds i 0) digit)

pub overflow_mul-value : goal.overflow_mul-value
overflow_mul-value c =
    let few = (plain c.args.digits.now c.requires).few in
    let below : 10 ^ c.loop-digit.digit-index ≤ 10 ^ 9 = pow-le-pow_right {n = 10} (lit< tt) {i = c.loop-digit.digit-index} {j = 9} (omega arith) in
    omega (arith, below, c.loop-digit.invariant.small)

pub overflow_add-value : goal.overflow_add-value
overflow_add-value c =
    let few = (plain c.args.digits.now c.requires).few in
    let below : 10 ^ c.loop-digit.digit-index ≤ 10 ^ 9 = pow-le-pow_right {n = 10} (lit< tt) {i = c.loop-digit.digit-index} {j = 9} (omega arith) in
    omega (arith, below, c.loop-digit.invariant.small)

pub loop-digit-preserved : goal.loop-digit-preserved
loop-digit-preserved c =
    let ds = c.args.digits.now in
    let i = c.loop-digit.digit-index in
    let digit = digit_at ds i (omega arith) (plain ds c.requires).digits in
    record {
      value = ap (λ u. digits_value (c.loop-digit.value * 10 + u) (drop (i + 1) ds)) c.from.ensures ∙ sym (at_drop_more (digits_value c.loop-digit.value) ds i 0 (omega arith)) ∙ c.loop-digit.invariant.value;
      small = omega (arith, pow_more 10 i, c.loop-digit.invariant.small, least (get_or ds i 0) digit, most (get_or ds i 0) digit);
    }

pub returns : goal.returns
returns c = sym (at_drop_all (digits_value c.loop-digit.value) c.args.digits.now c.loop-digit.digit-index (omega arith)) ∙ c.loop-digit.invariant.value
