-- How many comments end by a place.
use Rattle.std.proofs.Common.{◌≡◌, ◌∙◌, refl, sym, ap, ℕ, zero, suc, ◌<◌, ◌≤◌, arith, nat_le, List, [], ◌∷◌, length, get_or, filter, map, Bool, true, false, if◌then◌else◌}
use Rattle.redl_commented.specs.Inside.Fronts.{is_by}
use Rattle.redl_commented.specs.On.{ends_by, finish_of}
use Rattle.redl_commented.specs.Orders.{in_order, placed_in}
use Rattle.redl_commented.specs.declared.range.Ranged.{Ranged}

pub ends-counted : (from : ℕ) (all : List Ranged) → length (filter (is_by from) (map finish_of all)) ≡ length (filter (ends_by from) all)
ends-counted from [] = refl
ends-counted from (x ∷ xs) = by (ends_by from x) (ends-counted from xs)
  where
    by : (b : Bool) → length (filter (is_by from) (map finish_of xs)) ≡ length (filter (ends_by from) xs) → length (if b then finish_of x ∷ filter (is_by from) (map finish_of xs) else filter (is_by from) (map finish_of xs)) ≡ length (if b then x ∷ filter (ends_by from) xs else filter (ends_by from) xs)
    by true so = ap (λ (n : ℕ). suc n) so
    by false so = so

-- a list in order has as many of each sort
module _ {X : Type 0} (key : X → ℕ) (test : X → Bool) where
  swapped : (p q : Bool) (x y : X) (zs : List X) → length (if q then y ∷ (if p then x ∷ zs else zs) else (if p then x ∷ zs else zs)) ≡ length (if p then x ∷ (if q then y ∷ zs else zs) else (if q then y ∷ zs else zs))
  swapped true true x y zs = refl
  swapped true false x y zs = refl
  swapped false true x y zs = refl
  swapped false false x y zs = refl

  more : (b : Bool) (y : X) (xs zs : List X) → length xs ≡ length zs → length (if b then y ∷ xs else xs) ≡ length (if b then y ∷ zs else zs)
  more true y xs zs e = ap (λ (n : ℕ). suc n) e
  more false y xs zs e = e

  placed-counted : (x : X) (ys : List X) → length (filter test (placed_in key x ys)) ≡ length (filter test (x ∷ ys))
  placed-counted x [] = refl
  placed-counted x (y ∷ ys) = by (nat_le (key x) (key y)) (placed-counted x ys)
    where
      by : (b : Bool) → length (filter test (placed_in key x ys)) ≡ length (filter test (x ∷ ys)) → length (filter test (if b then x ∷ y ∷ ys else y ∷ placed_in key x ys)) ≡ length (filter test (x ∷ y ∷ ys))
      by true so = refl
      by false so = more (test y) y (filter test (placed_in key x ys)) (filter test (x ∷ ys)) so ∙ swapped (test x) (test y) x y (filter test ys)

  pub in_order-counted : (xs : List X) → length (filter test (in_order key xs)) ≡ length (filter test xs)
  in_order-counted [] = refl
  in_order-counted (x ∷ xs) = placed-counted x (in_order key xs) ∙ more (test x) x (filter test (in_order key xs)) (filter test xs) (in_order-counted xs)

-- those that pass come first, up to i
pub point-counted : (from : ℕ) (ends : List ℕ) (i : ℕ) → i ≤ length ends
    → ((k d : ℕ) → k < i → nat_le (get_or ends k d) from ≡ true) → ((k d : ℕ) → i ≤ k → k < length ends → nat_le (get_or ends k d) from ≡ false)
    → i ≡ length (filter (is_by from) ends)
point-counted from [] i few pass fail = omega (arith, few)
point-counted from (x ∷ xs) zero few pass fail =
    point-counted from xs zero (omega arith) (λ k d less. absurd (omega (arith, less))) (λ k d low less. fail (suc k) d (omega arith) (omega (arith, less)))
    ∙ sym (ap (λ b. length (if b then x ∷ filter (is_by from) xs else filter (is_by from) xs)) (fail 0 0 (omega arith) (omega arith)))
point-counted from (x ∷ xs) (suc i) few pass fail =
    ap (λ (n : ℕ). suc n) (point-counted from xs i (omega (arith, few)) (λ k d less. pass (suc k) d (omega (arith, less))) (λ k d low less. fail (suc k) d (omega (arith, low)) (omega (arith, less))))
    ∙ sym (ap (λ b. length (if b then x ∷ filter (is_by from) xs else filter (is_by from) xs)) (pass 0 0 (omega arith)))
