-- Places in lists.
use Rattle.std.proofs.Common.{◌≡◌, ◌∙◌, refl, ap, ℕ, zero, suc, ◌+◌, ◌<◌, List, [], ◌∷◌, ◌++◌, Contains, length, slice_get, slice_index_or, Some, arith}
use Rattle.std.proofs.lemmas.Option.{slice_get_within, get_or_from_slice_get}

-- the element stands somewhere in the list
abbrev pub IsPlaced : {X : Type 0} → List X → X → Type 0
IsPlaced xs x = (k : ℕ) × (slice_get xs k ≡ Some x)

pub contains : {X : Type 0} (xs : List X) (x : X) → IsPlaced xs x → Contains xs x
contains xs x at = (at.0, slice_get_within xs at.0 x at.1, get_or_from_slice_get xs at.0 x x at.1)

placed-at : {X : Type 0} (xs : List X) (x : X) (k : ℕ) → k < length xs → slice_index_or xs k x ≡ x → slice_get xs k ≡ Some x
placed-at [] x k within at = absurd (omega (arith, within))
placed-at (y ∷ xs) x zero within at = ap Some at
placed-at (y ∷ xs) x (suc k) within at = placed-at xs x k (omega (arith, within)) at

-- an element of a list has a place in it
pub placed : {X : Type 0} (xs : List X) (x : X) → Contains xs x → IsPlaced xs x
placed xs x c = (c.0, placed-at xs x c.0 c.1 c.2)

-- behind a list stands the first of what follows
pub at-end : {X : Type 0} (xs ys : List X) (x : X) → slice_get (xs ++ x ∷ ys) (length xs) ≡ Some x
at-end [] ys x = refl
at-end (y ∷ xs) ys x = at-end xs ys x

-- what is in the first list stays where it is
pub at-left : {X : Type 0} (xs ys : List X) (k : ℕ) (x : X) → slice_get xs k ≡ Some x → slice_get (xs ++ ys) k ≡ Some x
at-left [] ys k x at = absurd (cc)
at-left (y ∷ xs) ys zero x at = at
at-left (y ∷ xs) ys (suc k) x at = at-left xs ys k x at

-- what is in the second list comes after the first
pub at-right : {X : Type 0} (xs ys : List X) (k : ℕ) (x : X) → slice_get ys k ≡ Some x → slice_get (xs ++ ys) (length xs + k) ≡ Some x
at-right [] ys k x at = let is : 0 + k ≡ k = omega arith in ap (slice_get ys) is ∙ at
at-right (y ∷ xs) ys k x at =
    let is : suc (length xs) + k ≡ suc (length xs + k) = omega arith in
    ap (slice_get (y ∷ (xs ++ ys))) is ∙ at-right xs ys k x at

-- a place is in the list
pub there-is : {X : Type 0} (xs : List X) (k : ℕ) → k < length xs → (x : X) × (slice_get xs k ≡ Some x)
there-is [] k within = absurd (omega (arith, within))
there-is (x ∷ xs) zero within = (x, refl)
there-is (x ∷ xs) (suc k) within = there-is xs k (omega (arith, within))
