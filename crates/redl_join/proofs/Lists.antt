-- Lists in a strict order: an insert, a removal, a filter, and lists with the same elements.
use Rattle.std.proofs.Common.{◌≡◌, Bool, true, false, cond, List, [], ◌∷◌, Ordering, Less, Equal, Greater, refl, sym, ap, subst, ◌∙◌, filter}
use Rattle.std.specs.Prelude.{◌||◌}
use Rattle.std.specs.List.{list_any, AllByRecursion}
use Rattle.std.specs.List.Sorted.{IsStrictlySortedBy}
use Rattle.std.specs.Cmp.{IsTotalOrder}
use Rattle.std.specs.Ordering.{is_eq, match_ordering, ordering_reverse}
use Rattle.std.specs.Set.{remove_key}
use Rattle.std.specs.BTreeSet.{insert_key}
use Rattle.std.proofs.lemmas.Cmp.{tied_itself, alike_right}
use Rattle.std.proofs.lemmas.Map.Lookups.{CmpEqualImpliesEq}

-- the first two of three tests, of which one holds, may change places
pub or_swap : (a b c : Bool) → (a || (b || c)) ≡ (b || (a || c))
or_swap true true c = refl
or_swap true false c = refl
or_swap false true c = refl
or_swap false false c = refl

or_same : (a b : Bool) → (a || b) ≡ (a || (a || b))
or_same true b = refl
or_same false b = refl

all_filter : {K : Type 0} (P : K → Type 0) (p : K → Bool) (xs : List K) → AllByRecursion P xs → AllByRecursion P (filter p xs)
all_filter P p [] h = tt
all_filter P p (x ∷ xs) h = by (p x) (all_filter P p xs h.1) where
  by : (b : Bool) → AllByRecursion P (filter p xs) → AllByRecursion P (cond b (x ∷ filter p xs) (filter p xs))
  by true rest = (h.0, rest)
  by false rest = rest

all_insert : {K : Type 0} (R : K → K → Ordering) (P : K → Type 0) (xs : List K) (e : K) → AllByRecursion P xs → P e → AllByRecursion P (insert_key R xs e)
all_insert R P [] e h pe = (pe, tt)
all_insert R P (x ∷ xs) e h pe = by (R e x) (all_insert R P xs e h.1 pe) where
  by : (r : Ordering) → AllByRecursion P (insert_key R xs e) → AllByRecursion P (match_ordering r (e ∷ x ∷ xs) (x ∷ xs) (x ∷ insert_key R xs e))
  by Less rest = (pe, h)
  by Equal rest = h
  by Greater rest = (h.0, rest)

module _ {K : Type 0} {R : K → K → Ordering} (o : IsTotalOrder R) where
  -- what is below the first of a list is below all of it
  pub below : (x y : K) (ys : List K) → R x y ≡ Less → AllByRecursion (λ z. R y z ≡ Less) ys → AllByRecursion (λ z. R x z ≡ Less) ys
  below x y [] less h = tt
  below x y (z ∷ zs) less h = (o.trans x y z less h.0, below x y zs less h.1)

  absent_below : (x : K) (ys : List K) → AllByRecursion (λ z. R x z ≡ Less) ys → list_any (λ y. is_eq (R x y)) ys ≡ false
  absent_below x [] h = refl
  absent_below x (y ∷ ys) h = rw h.0 (absent_below x ys h.1)

  -- an element that is there stays alone
  pub insert_present : (xs : List K) (e : K) → IsStrictlySortedBy R xs → list_any (λ y. is_eq (R e y)) xs ≡ true → insert_key R xs e ≡ xs
  unfolding IsStrictlySortedBy
  insert_present [] e sorted has = absurd cc
  insert_present (x ∷ xs) e sorted has = by (R e x) refl has (insert_present xs e sorted.1) where
    by : (r : Ordering) → R e x ≡ r → (is_eq r || list_any (λ y. is_eq (R e y)) xs) ≡ true → (list_any (λ y. is_eq (R e y)) xs ≡ true → insert_key R xs e ≡ xs)
        → match_ordering r (e ∷ x ∷ xs) (x ∷ xs) (x ∷ insert_key R xs e) ≡ x ∷ xs
    by Less less h rec = let none = absent_below e xs (below e x xs less sorted.0) in absurd cc
    by Equal same h rec = refl
    by Greater more h rec = ap (λ (l : List K). x ∷ l) (rec h)

  insert_below : (xs : List K) (e : K) → AllByRecursion (λ z. R e z ≡ Less) xs → insert_key R xs e ≡ e ∷ xs
  insert_below [] e h = refl
  insert_below (x ∷ xs) e h = rw h.0 refl

  -- a filter of a union with one element, where the filter can't tell equal elements apart
  pub filter_insert : (p : K → Bool) → ((a b : K) → R a b ≡ Equal → p a ≡ p b) → (xs : List K) (e : K) → IsStrictlySortedBy R xs
      → filter p (insert_key R xs e) ≡ cond (p e) (insert_key R (filter p xs) e) (filter p xs)
  unfolding IsStrictlySortedBy
  filter_insert p alike [] e sorted = refl
  filter_insert p alike (x ∷ xs) e sorted = by (R e x) refl (p x) refl (p e) refl (filter_insert p alike xs e sorted.1) where
    kept : (q : Bool) → p x ≡ q → filter p (x ∷ xs) ≡ cond q (x ∷ filter p xs) (filter p xs)
    kept q is = rw is refl

    step : (r : Ordering) → R e x ≡ r → (ys : List K) → insert_key R (x ∷ ys) e ≡ match_ordering r (e ∷ x ∷ ys) (x ∷ ys) (x ∷ insert_key R ys e)
    step r is ys = rw is refl

    by : (r : Ordering) → R e x ≡ r → (q : Bool) → p x ≡ q → (s : Bool) → p e ≡ s
        → filter p (insert_key R xs e) ≡ cond (p e) (insert_key R (filter p xs) e) (filter p xs)
        → filter p (match_ordering r (e ∷ x ∷ xs) (x ∷ xs) (x ∷ insert_key R xs e)) ≡ cond s (insert_key R (filter p (x ∷ xs)) e) (filter p (x ∷ xs))
    by Less less q is true own rec =
        let all = all_filter (λ z. R e z ≡ Less) p (x ∷ xs) (less, below e x xs less sorted.0) in
        rw own (sym (insert_below (filter p (x ∷ xs)) e all))
    by Less less q is false own rec = rw own refl
    by Equal same true is true own rec = rw (kept true is, step Equal same (filter p xs)) refl
    by Equal same true is false own rec = refl
    by Equal same false is true own rec = let e = alike e x same in absurd cc
    by Equal same false is false own rec = refl
    by Greater more true is true own rec = rw (kept true is, step Greater more (filter p xs), is, rec, own) refl
    by Greater more true is false own rec = rw (kept true is, is, rec, own) refl
    by Greater more false is true own rec = rw (kept false is, is, rec, own) refl
    by Greater more false is false own rec = rw (kept false is, is, rec, own) refl

  pub filter_remove : (p : K → Bool) → ((a b : K) → R a b ≡ Equal → p a ≡ p b) → (xs : List K) (e : K)
      → filter p (remove_key (λ y. is_eq (R e y)) xs) ≡ cond (p e) (remove_key (λ y. is_eq (R e y)) (filter p xs)) (filter p xs)
  filter_remove p alike [] e = empty (p e) where
    empty : (s : Bool) → [] ≡ cond {A = List K} s [] []
    empty true = refl
    empty false = refl
  filter_remove p alike (x ∷ xs) e = by (R e x) refl (p x) refl (p e) refl (filter_remove p alike xs e) where
    kept : (q : Bool) → p x ≡ q → filter p (x ∷ xs) ≡ cond q (x ∷ filter p xs) (filter p xs)
    kept q is = rw is refl

    step : (r : Ordering) → R e x ≡ r → (ys : List K) → remove_key (λ y. is_eq (R e y)) (x ∷ ys) ≡ cond (is_eq r) ys (x ∷ remove_key (λ y. is_eq (R e y)) ys)
    step r is ys = rw is refl

    by : (r : Ordering) → R e x ≡ r → (q : Bool) → p x ≡ q → (s : Bool) → p e ≡ s
        → filter p (remove_key (λ y. is_eq (R e y)) xs) ≡ cond (p e) (remove_key (λ y. is_eq (R e y)) (filter p xs)) (filter p xs)
        → filter p (cond (is_eq r) xs (x ∷ remove_key (λ y. is_eq (R e y)) xs)) ≡ cond s (remove_key (λ y. is_eq (R e y)) (filter p (x ∷ xs))) (filter p (x ∷ xs))
    by Equal same true is true own rec = rw (kept true is, step Equal same (filter p xs)) refl
    by Equal same true is false own rec = let e = alike e x same in absurd cc
    by Equal same false is true own rec = let e = alike e x same in absurd cc
    by Equal same false is false own rec = rw (kept false is) refl
    by Less less true is true own rec = rw (kept true is, step Less less (filter p xs), is, rec, own) refl
    by Less less true is false own rec = rw (kept true is, is, rec, own) refl
    by Less less false is true own rec = rw (kept false is, is, rec, own) refl
    by Less less false is false own rec = rw (kept false is, is, rec, own) refl
    by Greater more true is true own rec = rw (kept true is, step Greater more (filter p xs), is, rec, own) refl
    by Greater more true is false own rec = rw (kept true is, is, rec, own) refl
    by Greater more false is true own rec = rw (kept false is, is, rec, own) refl
    by Greater more false is false own rec = rw (kept false is, is, rec, own) refl

  -- an insert keeps the order
  pub sorted_insert : (xs : List K) (e : K) → IsStrictlySortedBy R xs → IsStrictlySortedBy R (insert_key R xs e)
  unfolding IsStrictlySortedBy
  sorted_insert [] e sorted = (tt, tt)
  sorted_insert (x ∷ xs) e sorted = by (R e x) refl (sorted_insert xs e sorted.1) where
    by : (r : Ordering) → R e x ≡ r → IsStrictlySortedBy R (insert_key R xs e) → IsStrictlySortedBy R (match_ordering r (e ∷ x ∷ xs) (x ∷ xs) (x ∷ insert_key R xs e))
    by Less less rec = ((less, below e x xs less sorted.0), sorted)
    by Equal same rec = sorted
    by Greater more rec =
        let other : R x e ≡ Less = o.antisymm x e ∙ ap ordering_reverse more in
        (all_insert R (λ z. R x z ≡ Less) xs e sorted.0 other, rec)

  -- an element that was not there, inserted and removed again, leaves the list as it was
  pub remove_insert : (xs : List K) (e : K) → list_any (λ y. is_eq (R e y)) xs ≡ false → remove_key (λ y. is_eq (R e y)) (insert_key R xs e) ≡ xs
  remove_insert [] e none = rw (tied_itself o e) refl
  remove_insert (x ∷ xs) e none = by (R e x) refl none (remove_insert xs e) where
    by : (r : Ordering) → R e x ≡ r → (is_eq r || list_any (λ y. is_eq (R e y)) xs) ≡ false
        → (list_any (λ y. is_eq (R e y)) xs ≡ false → remove_key (λ y. is_eq (R e y)) (insert_key R xs e) ≡ xs)
        → remove_key (λ y. is_eq (R e y)) (match_ordering r (e ∷ x ∷ xs) (x ∷ xs) (x ∷ insert_key R xs e)) ≡ x ∷ xs
    by Less is h rec = rw (tied_itself o e) refl
    by Equal is h rec = absurd cc
    by Greater is h rec = rw is (ap (λ (l : List K). x ∷ l) (rec h))

  -- what is there after an insert
  pub any_insert : (q : K) (xs : List K) (e : K) → list_any (λ y. is_eq (R q y)) (insert_key R xs e) ≡ (is_eq (R q e) || list_any (λ y. is_eq (R q y)) xs)
  any_insert q [] e = refl
  any_insert q (x ∷ xs) e = by (R e x) refl (any_insert q xs e) where
    by : (r : Ordering) → R e x ≡ r → list_any (λ y. is_eq (R q y)) (insert_key R xs e) ≡ (is_eq (R q e) || list_any (λ y. is_eq (R q y)) xs)
        → list_any (λ y. is_eq (R q y)) (match_ordering r (e ∷ x ∷ xs) (x ∷ xs) (x ∷ insert_key R xs e)) ≡ (is_eq (R q e) || (is_eq (R q x) || list_any (λ y. is_eq (R q y)) xs))
    by Less less rec = refl
    by Equal same rec = rw (alike_right o e x q same) (or_same (is_eq (R q x)) (list_any (λ y. is_eq (R q y)) xs))
    by Greater more rec = rw rec (or_swap (is_eq (R q x)) (is_eq (R q e)) (list_any (λ y. is_eq (R q y)) xs))

  -- strictly sorted lists with the same elements are the same
  pub same_sorted : CmpEqualImpliesEq R → (xs ys : List K) → IsStrictlySortedBy R xs → IsStrictlySortedBy R ys
      → ((q : K) → list_any (λ z. is_eq (R q z)) xs ≡ list_any (λ z. is_eq (R q z)) ys) → xs ≡ ys
  unfolding IsStrictlySortedBy
  same_sorted exact [] [] s t h = refl
  same_sorted exact [] (y ∷ ys) s t h = let e = h y in let own = tied_itself o y in absurd (let f : false ≡ (is_eq Equal || list_any (λ z. is_eq (R y z)) ys) = rw own at e in cc)
  same_sorted exact (x ∷ xs) [] s t h = let e = h x in let own = tied_itself o x in absurd (let f : (is_eq Equal || list_any (λ z. is_eq (R x z)) xs) ≡ false = rw own at e in cc)
  same_sorted exact (x ∷ xs) (y ∷ ys) s t h = by (R x y) refl (same_sorted exact xs ys s.1 t.1) where
    by : (r : Ordering) → R x y ≡ r → (((q : K) → list_any (λ z. is_eq (R q z)) xs ≡ list_any (λ z. is_eq (R q z)) ys) → xs ≡ ys) → (x ∷ xs) ≡ (y ∷ ys)
    by Less less rec =
        let none : list_any (λ z. is_eq (R x z)) (y ∷ ys) ≡ false = absent_below x (y ∷ ys) (less, below x y ys less t.0) in
        let own : list_any (λ z. is_eq (R x z)) (x ∷ xs) ≡ true = rw (tied_itself o x) refl in
        let e = h x in absurd cc
    by Greater more rec =
        let less : R y x ≡ Less = o.antisymm y x ∙ ap ordering_reverse more in
        let none : list_any (λ z. is_eq (R y z)) (x ∷ xs) ≡ false = absent_below y (x ∷ xs) (less, below y x xs less s.0) in
        let own : list_any (λ z. is_eq (R y z)) (y ∷ ys) ≡ true = rw (tied_itself o y) refl in
        let e = h y in absurd cc
    by Equal same rec =
        let one : x ≡ y = exact x y same in
        ap (λ (z : K). z ∷ xs) one ∙ ap (λ (l : List K). y ∷ l) (rec (λ q. rest q (R q x) refl)) where
          rest : (q : K) (r : Ordering) → R q x ≡ r → list_any (λ z. is_eq (R q z)) xs ≡ list_any (λ z. is_eq (R q z)) ys
          rest q Less is = rw (is, sym (alike_right o x y q same) ∙ is) at (h q)
          rest q Greater is = rw (is, sym (alike_right o x y q same) ∙ is) at (h q)
          rest q Equal is =
              let at : q ≡ x = exact q x is in
              let left : list_any (λ z. is_eq (R q z)) xs ≡ false = subst (λ (k : K). list_any (λ z. is_eq (R k z)) xs ≡ false) (sym at) (absent_below x xs s.0) in
              let right : list_any (λ z. is_eq (R q z)) ys ≡ false = subst (λ (k : K). list_any (λ z. is_eq (R k z)) ys ≡ false) (sym (at ∙ exact x y same)) (absent_below y ys t.0) in
              left ∙ sym right
