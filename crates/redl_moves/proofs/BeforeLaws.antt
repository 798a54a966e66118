-- How many markers come before a position.
use Rattle.std.proofs.Common.{◌≡◌, ◌∙◌, refl, ap, ℕ, zero, suc, ◌+◌, ◌≤◌, ◌<◌, List, [], ◌∷◌, true, false, nat_lt, Bool, Some, slice_get, map, length, get_or, arith, if◌then◌else◌}
use Rattle.redl_tree.specs.Revisions.Moves.{Marking}
use Rattle.redl_moves.specs.Marks.{markings, RisesFrom}
use Rattle.redl_moves.specs.Standing.{before}
use Rattle.redl_moves.specs.declared.marker.Marker.{Marker}

rises-low : (from : ℕ) (marks : List Marker) (j : ℕ) (d : Marker) → RisesFrom from (markings marks) → j < length marks → from ≤ (get_or marks j d).at
rises-low from [] j d rises h = absurd (omega (arith, h))
rises-low from (m ∷ marks) zero d rises h = rises.0
rises-low from (m ∷ marks) (suc j) d rises h = omega (arith, rises.0, rises-low (m.at + 1) marks j d rises.1 (omega (arith, h)))

pub rises-along : (from : ℕ) (marks : List Marker) (i j : ℕ) (d : Marker) → RisesFrom from (markings marks) → i ≤ j → j < length marks →
    (get_or marks i d).at ≤ (get_or marks j d).at
rises-along from [] i j d rises h k = absurd (omega (arith, k))
rises-along from (m ∷ marks) zero zero d rises h k = omega arith
rises-along from (m ∷ marks) zero (suc j) d rises h k = omega (arith, rises-low (m.at + 1) marks j d rises.1 (omega (arith, k)))
rises-along from (m ∷ marks) (suc i) zero d rises h k = absurd (omega (arith, h))
rises-along from (m ∷ marks) (suc i) (suc j) d rises h k = rises-along (m.at + 1) marks i j d rises.1 (omega (arith, h)) (omega (arith, k))

pub below-too : (m n at : ℕ) → m ≤ n → nat_lt n at ≡ true → nat_lt m at ≡ true
below-too m n at h e = grind arith

pub point-before : (at : ℕ) (marks : List Marker) (k : ℕ) → k ≤ length marks →
    ((i : ℕ) (d : Marker) → 0 ≤ i → i < k → nat_lt (get_or marks i d).at at ≡ true) →
    ((i : ℕ) (d : Marker) → k ≤ i → i < length marks → nat_lt (get_or marks i d).at at ≡ false) →
    before at (markings marks) ≡ k
point-before at [] zero h low high = refl
point-before at [] (suc k) h low high = absurd (omega (arith, h))
point-before at (m ∷ marks) zero h low high = ap (λ b. if b then 1 + before at (markings marks) else 0) (high 0 m (omega arith) (omega arith))
point-before at (m ∷ marks) (suc k) h low high =
    ap (λ b. if b then 1 + before at (markings marks) else 0) (low 0 m (omega arith) (omega arith))
    ∙ ap (λ n. 1 + n)
    (point-before at marks k (omega (arith, h)) (λ i d l u. low (suc i) d (omega arith) (omega (arith, u))) (λ i d l u. high (suc i) d (omega (arith, l)) (omega (arith, u))))
    ∙ one_more k
  where
    one_more : (n : ℕ) → 1 + n ≡ suc n
    one_more n = omega arith

pub before-within : (at : ℕ) (marks : List Marking) → before at marks ≤ length marks
before-within at [] = omega arith
before-within at (m ∷ marks) = by (nat_lt m.at at) (before-within at marks)
  where
    by : (b : Bool) → before at marks ≤ length marks → (if b then 1 + before at marks else 0) ≤ length (m ∷ marks)
    by true ih = omega (arith, ih)
    by false ih = omega arith

-- an item of a mapped list comes from an item
pub mapped-item : {X Y : Type 0} (f : X → Y) (xs : List X) (k : ℕ) (y : Y) → slice_get (map f xs) k ≡ Some y → (x : X) × (slice_get xs k ≡ Some x) × (f x ≡ y)
mapped-item f [] k y e = absurd (cc)
mapped-item f (x ∷ xs) zero y e = let is : f x ≡ y = cc in (x, refl, is)
mapped-item f (x ∷ xs) (suc k) y e = mapped-item f xs k y e
