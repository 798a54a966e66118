-- A list of first numbers that is filled from the last pair on: of several pairs with one second number the first one is left.
use Rattle.std.proofs.Common.{◌≡◌, ℕ, zero, suc, ◌+◌, ◌<◌, List, [], ◌∷◌, ◌++◌, length, take, drop, append-nil, map, replicate, set, Bool, true, false, ◌==◌, refl, sym, ap, ◌∙◌, arith, cond}
use Rattle.std.specs.List.{range_with_len}
use Rattle.std.proofs.lemmas.Bool.{eqb-true, eq-eqb}
use Rattle.std.proofs.lemmas.List.{drop_all, take_all}
use Rattle.redl_sittings.specs.Inside.Filling.{with_number, with_pairs}
use Rattle.redl_sittings.specs.SecondNumbers.{numbers_beside}

-- this number for one of them, and for each other one what a function gives
abbrev or_else : ℕ → ℕ → (ℕ → ℕ) → ℕ → ℕ
or_else one first others number = cond (one == number) first (others number)

below : (one number : ℕ) → one < number → (one == number) ≡ false
below one number less = at (one == number) refl
  where
    at : (b : Bool) → (one == number) ≡ b → b ≡ false
    at true e = absurd (omega (arith, less, eqb-true one number e))
    at false e = refl

above : (one number : ℕ) → number < one → (one == number) ≡ false
above one number less = at (one == number) refl
  where
    at : (b : Bool) → (one == number) ≡ b → b ≡ false
    at true e = absurd (omega (arith, less, eqb-true one number e))
    at false e = refl

-- numbers that are greater than the one
others_alone : (one first : ℕ) (others : ℕ → ℕ) (from count : ℕ) → one < from
    → map (or_else one first others) (range_with_len from count) ≡ map others (range_with_len from count)
others_alone one first others from zero less = refl
others_alone one first others from (suc count) less =
    ap (λ b. cond b first (others from) ∷ map (or_else one first others) (range_with_len (from + 1) count)) (below one from less)
    ∙ ap (λ (l : List ℕ). others from ∷ l) (others_alone one first others (from + 1) count (omega (arith, less)))

put_at : (one first : ℕ) (others : ℕ → ℕ) (from count place : ℕ) → from + place ≡ one
    → set (map others (range_with_len from count)) place first ≡ map (or_else one first others) (range_with_len from count)
put_at one first others from zero zero e = refl
put_at one first others from zero (suc place) e = refl
put_at one first others from (suc count) zero e =
    let same : one ≡ from = omega (arith, e) in
    ap (λ (l : List ℕ). first ∷ l) (sym (others_alone one first others (from + 1) count (omega (arith, e))))
    ∙ ap (λ b. cond b first (others from) ∷ map (or_else one first others) (range_with_len (from + 1) count)) (sym (eq-eqb one from same))
put_at one first others from (suc count) (suc place) e =
    ap (λ (l : List ℕ). others from ∷ l) (put_at one first others (from + 1) count place (omega (arith, e)))
    ∙ ap (λ b. cond b first (others from) ∷ map (or_else one first others) (range_with_len (from + 1) count)) (sym (above one from (omega (arith, e))))

-- one pair more, before the others
one_more : (second first : ℕ) (pairs : List (ℕ × ℕ)) (count : ℕ) → with_number second first (numbers_beside pairs count) ≡ numbers_beside ((second, first) ∷ pairs) count
one_more zero first pairs count = sym (others_alone zero first _ 1 count (omega arith))
one_more (suc place) first pairs count = put_at (suc place) first _ 1 count place (omega arith)

none_beside : (from count : ℕ) → replicate {A = ℕ} count 0 ≡ map (λ number. 0) (range_with_len from count)
none_beside from zero = refl
none_beside from (suc count) = ap (λ (l : List ℕ). 0 ∷ l) (none_beside (from + 1) count)

pub filled : (pairs : List (ℕ × ℕ)) (count : ℕ) → with_pairs pairs (replicate {A = ℕ} count 0) ≡ numbers_beside pairs count
filled [] count = none_beside 1 count
filled (pair ∷ pairs) count = ap (with_number pair.0 pair.1) (filled pairs count) ∙ one_more pair.0 pair.1 pairs count

-- pairs before others
pub with-append : (pairs others : List (ℕ × ℕ)) (back : List ℕ) → with_pairs (pairs ++ others) back ≡ with_pairs pairs (with_pairs others back)
with-append [] others back = refl
with-append (pair ∷ pairs) others back = ap (with_number pair.0 pair.1) (with-append pairs others back)

-- a list that was written as a whole
pub written_whole : (new old : List ℕ) (len : ℕ) → length new ≡ len → length old ≡ len → take len (new ++ drop (length new) old) ≡ new
written_whole new old len is was =
    ap (λ (l : List ℕ). take len (new ++ l)) (drop_all (length new) old (omega (arith, is, was))) ∙ ap (take len) (append-nil new) ∙ take_all len new (omega (arith, is))
