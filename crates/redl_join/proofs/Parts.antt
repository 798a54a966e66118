-- Lists in a strict order in parts: an insertion and a removal in one part, and where a search ends.
use Rattle.std.proofs.Common.{◌≡◌, ℕ, zero, suc, ◌<◌, ◌≤◌, Bool, true, false, cond, List, [], ◌∷◌, ◌++◌, length, get_or, Ordering, Less, Equal, Greater, refl, sym, ap, ◌∙◌, arith}
use Rattle.std.specs.Prelude.{◌||◌}
use Rattle.std.specs.List.{list_any, AllByRecursion, HoldsAt, insert, remove}
use Rattle.std.specs.List.Sorted.{IsStrictlySortedBy, IsNonDecreasingBy, IsPartitionPoint}
use Rattle.std.specs.Cmp.{IsTotalOrder}
use Rattle.std.specs.Ordering.{is_eq, match_ordering, ordering_index, ordering_reverse}
use Rattle.std.specs.Set.{remove_key}
use Rattle.std.specs.BTreeSet.{insert_key}
use Rattle.std.proofs.lemmas.Cmp.{tied_back, alike_right}
use Rattle.std.proofs.Math.Bool.{or-true}

-- ---- what holds of all

pub all_front : {K : Type 0} (P : K → Type 0) (xs ys : List K) → AllByRecursion P (xs ++ ys) → AllByRecursion P xs
all_front P [] ys h = tt
all_front P (x ∷ xs) ys h = (h.0, all_front P xs ys h.1)

pub all_back : {K : Type 0} (P : K → Type 0) (xs ys : List K) → AllByRecursion P (xs ++ ys) → AllByRecursion P ys
all_back P [] ys h = h
all_back P (x ∷ xs) ys h = all_back P xs ys h.1

pub all_append : {K : Type 0} (P : K → Type 0) (xs ys : List K) → AllByRecursion P xs → AllByRecursion P ys → AllByRecursion P (xs ++ ys)
all_append P [] ys h g = g
all_append P (x ∷ xs) ys h g = (h.0, all_append P xs ys h.1 g)

pub all_at : {K : Type 0} (P : K → Type 0) (xs : List K) (i : ℕ) (d : K) → AllByRecursion P xs → i < length xs → P (get_or xs i d)
all_at P [] i d h within = absurd (omega arith)
all_at P (x ∷ xs) zero d h within = h.0
all_at P (x ∷ xs) (suc i) d h within = all_at P xs i d h.1 (omega arith)

pub all_map : {K : Type 0} (P Q : K → Type 0) (xs : List K) → ((x : K) → P x → Q x) → AllByRecursion P xs → AllByRecursion Q xs
all_map P Q [] f h = tt
all_map P Q (x ∷ xs) f h = (f x h.0, all_map P Q xs f h.1)

-- ---- one part of a list in order

module _ {K : Type 0} {R : K → K → Ordering} (o : IsTotalOrder R) where
  pub sorted_front : (xs ys : List K) → IsStrictlySortedBy R (xs ++ ys) → IsStrictlySortedBy R xs
  unfolding IsStrictlySortedBy
  sorted_front [] ys h = tt
  sorted_front (x ∷ xs) ys h = (all_front (λ y. R x y ≡ Less) xs ys h.0, sorted_front xs ys h.1)

  pub sorted_back : (xs ys : List K) → IsStrictlySortedBy R (xs ++ ys) → IsStrictlySortedBy R ys
  unfolding IsStrictlySortedBy
  sorted_back [] ys h = h
  sorted_back (x ∷ xs) ys h = sorted_back xs ys h.1

  -- all of the front is below all of the back
  pub apart : (xs ys : List K) → IsStrictlySortedBy R (xs ++ ys) → AllByRecursion (λ x. AllByRecursion (λ y. R x y ≡ Less) ys) xs
  unfolding IsStrictlySortedBy
  apart [] ys h = tt
  apart (x ∷ xs) ys h = (all_back (λ y. R x y ≡ Less) xs ys h.0, apart xs ys h.1)

  pub greater : (x e : K) → R x e ≡ Less → R e x ≡ Greater
  greater x e less = o.antisymm e x ∙ ap ordering_reverse less

  pub less : (x e : K) → R x e ≡ Greater → R e x ≡ Less
  less x e more = o.antisymm e x ∙ ap ordering_reverse more

  -- an insertion after a front that is below
  pub insert_after : (xs ys : List K) (e : K) → AllByRecursion (λ x. R x e ≡ Less) xs → insert_key R (xs ++ ys) e ≡ xs ++ insert_key R ys e
  insert_after [] ys e h = refl
  insert_after (x ∷ xs) ys e h = rw (greater x e h.0) (ap (λ (l : List K). x ∷ l) (insert_after xs ys e h.1))

  -- an insertion before a back that is above
  pub insert_before : (xs ys : List K) (e : K) → AllByRecursion (λ y. R e y ≡ Less) ys → insert_key R (xs ++ ys) e ≡ insert_key R xs e ++ ys
  insert_before [] [] e h = refl
  insert_before [] (y ∷ ys) e h = rw h.0 refl
  insert_before (x ∷ xs) ys e h = by (R e x) (insert_before xs ys e h) where
    by : (r : Ordering) → insert_key R (xs ++ ys) e ≡ insert_key R xs e ++ ys
        → match_ordering r (e ∷ x ∷ (xs ++ ys)) (x ∷ (xs ++ ys)) (x ∷ insert_key R (xs ++ ys) e) ≡ match_ordering r (e ∷ x ∷ xs) (x ∷ xs) (x ∷ insert_key R xs e) ++ ys
    by Less rec = refl
    by Equal rec = refl
    by Greater rec = ap (λ (l : List K). x ∷ l) rec

  none_below : (xs : List K) (e : K) → AllByRecursion (λ x. R x e ≡ Less) xs → list_any (λ y. is_eq (R e y)) xs ≡ false
  none_below [] e h = refl
  none_below (x ∷ xs) e h = rw (greater x e h.0) (none_below xs e h.1)

  none_above : (xs : List K) (e : K) → AllByRecursion (λ x. R e x ≡ Less) xs → list_any (λ y. is_eq (R e y)) xs ≡ false
  none_above [] e h = refl
  none_above (x ∷ xs) e h = rw h.0 (none_above xs e h.1)

  pub any_after : (xs ys : List K) (e : K) → AllByRecursion (λ x. R x e ≡ Less) xs → list_any (λ y. is_eq (R e y)) (xs ++ ys) ≡ list_any (λ y. is_eq (R e y)) ys
  any_after [] ys e h = refl
  any_after (x ∷ xs) ys e h = rw (greater x e h.0) (any_after xs ys e h.1)

  pub any_before : (xs ys : List K) (e : K) → AllByRecursion (λ y. R e y ≡ Less) ys → list_any (λ y. is_eq (R e y)) (xs ++ ys) ≡ list_any (λ y. is_eq (R e y)) xs
  any_before [] ys e h = none_above ys e h
  any_before (x ∷ xs) ys e h = ap (λ (b : Bool). is_eq (R e x) || b) (any_before xs ys e h)

  pub remove_after : (xs ys : List K) (e : K) → AllByRecursion (λ x. R x e ≡ Less) xs → remove_key (λ y. is_eq (R e y)) (xs ++ ys) ≡ xs ++ remove_key (λ y. is_eq (R e y)) ys
  remove_after [] ys e h = refl
  remove_after (x ∷ xs) ys e h = rw (greater x e h.0) (ap (λ (l : List K). x ∷ l) (remove_after xs ys e h.1))

  remove_none : (ys : List K) (e : K) → AllByRecursion (λ y. R e y ≡ Less) ys → remove_key (λ y. is_eq (R e y)) ys ≡ ys
  remove_none [] e h = refl
  remove_none (y ∷ ys) e h = rw h.0 (ap (λ (l : List K). y ∷ l) (remove_none ys e h.1))

  pub remove_before : (xs ys : List K) (e : K) → AllByRecursion (λ y. R e y ≡ Less) ys → remove_key (λ y. is_eq (R e y)) (xs ++ ys) ≡ remove_key (λ y. is_eq (R e y)) xs ++ ys
  remove_before [] ys e h = remove_none ys e h
  remove_before (x ∷ xs) ys e h = by (is_eq (R e x)) (remove_before xs ys e h) where
    by : (b : Bool) → remove_key (λ y. is_eq (R e y)) (xs ++ ys) ≡ remove_key (λ y. is_eq (R e y)) xs ++ ys
        → cond b (xs ++ ys) (x ∷ remove_key (λ y. is_eq (R e y)) (xs ++ ys)) ≡ cond b xs (x ∷ remove_key (λ y. is_eq (R e y)) xs) ++ ys
    by true rec = refl
    by false rec = ap (λ (l : List K). x ∷ l) rec

  -- an element that is missing is not removed
  pub remove_absent : (xs : List K) (e : K) → list_any (λ y. is_eq (R e y)) xs ≡ false → remove_key (λ y. is_eq (R e y)) xs ≡ xs
  remove_absent [] e h = refl
  remove_absent (x ∷ xs) e h = by (is_eq (R e x)) h (remove_absent xs e) where
    by : (b : Bool) → (b || list_any (λ y. is_eq (R e y)) xs) ≡ false → (list_any (λ y. is_eq (R e y)) xs ≡ false → remove_key (λ y. is_eq (R e y)) xs ≡ xs)
        → cond b xs (x ∷ remove_key (λ y. is_eq (R e y)) xs) ≡ x ∷ xs
    by true h rec = absurd cc
    by false h rec = ap (λ (l : List K). x ∷ l) (rec h)

  -- ---- a binary search

  rises_by : (x y e : K) → R x y ≡ Less → ordering_index (R x e) ≤ ordering_index (R y e)
  rises_by x y e below_it = by (R x e) refl where
    by : (r : Ordering) → R x e ≡ r → ordering_index r ≤ ordering_index (R y e)
    by Less is = omega arith
    by Equal is =
        let other : R e y ≡ Less = sym (o.congr x e y is) ∙ below_it in
        rw (greater e y other) (omega arith)
    by Greater is =
        let other : R e y ≡ Less = o.trans e x y (less x e is) below_it in
        rw (greater e y other) (omega arith)

  pub rises : (xs : List K) (e : K) → IsStrictlySortedBy R xs → IsNonDecreasingBy (λ y. ordering_index (R y e)) xs
  unfolding IsStrictlySortedBy
  rises [] e sorted i j d le within = absurd (omega arith)
  rises (x ∷ xs) e sorted zero zero d le within = omega arith
  rises (x ∷ xs) e sorted zero (suc j) d le within = rises_by x (get_or xs j d) e (all_at (λ y. R x y ≡ Less) xs j d sorted.0 (omega arith))
  rises (x ∷ xs) e sorted (suc i) zero d le within = absurd (omega arith)
  rises (x ∷ xs) e sorted (suc i) (suc j) d le within = rises xs e sorted.1 i j d (omega arith) (omega arith)

  -- at the place that a search gives, an insertion is the one in order
  pub inserts : (xs : List K) (i : ℕ) (e : K) → i ≤ length xs → IsPartitionPoint (λ y. R y e ≡ Less) (λ y. R y e ≡ Greater) xs i → insert xs i e ≡ insert_key R xs e
  inserts [] zero e within h = refl
  inserts [] (suc i) e within h = absurd (omega arith)
  inserts (x ∷ xs) zero e within h = rw (less x e (h.1 0 e (omega arith) (omega arith))) refl
  inserts (x ∷ xs) (suc i) e within h =
      rw (greater x e (h.0 0 e (omega arith) (omega arith)))
      (ap (λ (l : List K). x ∷ l) (inserts xs i e (omega arith) (λ k d low high. h.0 (suc k) d (omega arith) (omega arith), λ k d low high. h.1 (suc k) d (omega arith) (omega arith))))

  pub lacks : (xs : List K) (i : ℕ) (e : K) → i ≤ length xs → IsPartitionPoint (λ y. R y e ≡ Less) (λ y. R y e ≡ Greater) xs i → list_any (λ y. is_eq (R e y)) xs ≡ false
  lacks [] i e within h = refl
  lacks (x ∷ xs) zero e within h =
      rw (less x e (h.1 0 e (omega arith) (omega arith)))
      (lacks xs zero e (omega arith) (λ k d low high. absurd (omega arith), λ k d low high. h.1 (suc k) d (omega arith) (omega arith)))
  lacks (x ∷ xs) (suc i) e within h =
      rw (greater x e (h.0 0 e (omega arith) (omega arith)))
      (lacks xs i e (omega arith) (λ k d low high. h.0 (suc k) d (omega arith) (omega arith), λ k d low high. h.1 (suc k) d (omega arith) (omega arith)))

  pub has : (xs : List K) (i : ℕ) (e : K) → i < length xs → HoldsAt (λ y. R y e ≡ Equal) xs i → list_any (λ y. is_eq (R e y)) xs ≡ true
  has [] i e within h = absurd (omega arith)
  has (x ∷ xs) zero e within h = rw (tied_back o x e (h e)) refl
  has (x ∷ xs) (suc i) e within h = rw (has xs i e (omega arith) h) (or-true (is_eq (R e x)))

  -- at the place that a search gives, a removal is the one of the element
  pub removes : (xs : List K) (i : ℕ) (e : K) → IsStrictlySortedBy R xs → i < length xs → HoldsAt (λ y. R y e ≡ Equal) xs i → remove xs i ≡ remove_key (λ y. is_eq (R e y)) xs
  unfolding IsStrictlySortedBy
  removes [] i e sorted within h = absurd (omega arith)
  removes (x ∷ xs) zero e sorted within h = rw (tied_back o x e (h e)) refl
  removes (x ∷ xs) (suc i) e sorted within h =
      let lower : R x (get_or xs i e) ≡ Less = all_at (λ y. R x y ≡ Less) xs i e sorted.0 (omega arith) in
      let own : R x e ≡ Less = sym (alike_right o (get_or xs i e) e x (h e)) ∙ lower in
      rw (greater x e own) (ap (λ (l : List K). x ∷ l) (removes xs i e sorted.1 (omega arith) h))
