-- Lists in the order of a number: they rise, and what a stable sort makes is the same list.
use Rattle.std.proofs.Common.{◌≡◌, ◌∙◌, refl, sym, ap, ℕ, zero, suc, ◌+◌, ◌<◌, ◌≤◌, ◌&&◌, arith, nat_le, List, [], ◌∷◌, drop, get_or, filter, Bool, true, false, true≢false, not, if◌then◌else◌, ◌⊎◌, inl, inr}
use Rattle.std.proofs.lemmas.Bool.{cases_lt, leb-true, leb-false}
use Rattle.std.specs.Cmp.{nat_cmp_is}
use Rattle.std.specs.Ordering.{nat_cmp, is_lt}
use Rattle.std.specs.declared.cmp.Ordering.TheVariants.{Less, Equal, Greater}
use Rattle.std.specs.List.Sorted.{IsSortedByKey, IsStableByKey, ties}
use Rattle.redl_commented.specs.Orders.{Above, Rises, in_order, placed_in}

-- ---- less than, as a sort asks for it

lt-is : (a b : ℕ) → a < b → is_lt (nat_cmp a b) ≡ true
lt-is a b h = ap is_lt (sym (nat_cmp_is a b Less h))

le-not : (a b : ℕ) → b ≤ a → is_lt (nat_cmp a b) ≡ false
le-not a b h = by (cases_lt b a)
  where
    by : (b < a) ⊎ (a ≤ b) → is_lt (nat_cmp a b) ≡ false
    by (inl more) = ap is_lt (sym (nat_cmp_is a b Greater more))
    by (inr less) = ap is_lt (sym (nat_cmp_is a b Equal (omega (arith, h, less))))

module _ {X : Type 0} (key : X → ℕ) where
  abbrev tie : X → X → Bool
  tie = ties (λ x y. is_lt (nat_cmp (key x) (key y)))

  tie-is : (x y : X) → key x ≡ key y → tie x y ≡ true
  tie-is x y e =
      ap (λ b. not b && not (is_lt (nat_cmp (key y) (key x)))) (le-not (key x) (key y) (omega (arith, e)))
      ∙ ap (λ b. not b) (le-not (key y) (key x) (omega (arith, e)))

  tie-less : (x y : X) → key x < key y → tie x y ≡ false
  tie-less x y h = ap (λ b. not b && not (is_lt (nat_cmp (key y) (key x)))) (lt-is (key x) (key y) h)

  tie-more : (x y : X) → key y < key x → tie x y ≡ false
  tie-more x y h =
      ap (λ b. not b && not (is_lt (nat_cmp (key y) (key x)))) (le-not (key x) (key y) (omega (arith, h)))
      ∙ ap (λ b. not b) (lt-is (key y) (key x) h)

  tie-same : (x y : X) → tie x y ≡ true → key x ≡ key y
  tie-same x y h = by (cases_lt (key x) (key y)) (cases_lt (key y) (key x))
    where
      by : (key x < key y) ⊎ (key y ≤ key x) → (key y < key x) ⊎ (key x ≤ key y) → key x ≡ key y
      by (inl less) other = absurd (true≢false (sym h ∙ tie-less x y less))
      by (inr ge) (inl more) = absurd (true≢false (sym h ∙ tie-more x y more))
      by (inr ge) (inr le) = omega (arith, ge, le)

  -- ---- lists that rise

  pub above-lower : (m n : ℕ) (ys : List X) → m ≤ n → Above key n ys → Above key m ys
  above-lower m n [] le h = tt
  above-lower m n (y ∷ ys) le h = (omega (arith, le, h.0), above-lower m n ys le h.1)

  -- one of them ties with y
  above-tied : (n : ℕ) (y : X) (ys rest : List X) → Above key n ys → filter (tie y) ys ≡ y ∷ rest → n ≤ key y
  above-tied n y [] rest h e = absurd cc
  above-tied n y (z ∷ zs) rest h e = by (tie y z) refl (λ t. above-tied n y zs rest h.1 (sym (ap (λ b. if b then z ∷ filter (tie y) zs else filter (tie y) zs) t) ∙ e))
    where
      by : (b : Bool) → tie y z ≡ b → (tie y z ≡ false → n ≤ key y) → n ≤ key y
      by true t so = let same : key y ≡ key z = tie-same y z t in omega (arith, same, h.0)
      by false t so = so t

  own-tied : (y : X) (ys : List X) → filter (tie y) (y ∷ ys) ≡ y ∷ filter (tie y) ys
  own-tied y ys = ap (λ b. if b then y ∷ filter (tie y) ys else filter (tie y) ys) (tie-is y y refl)

  -- ---- two lists that rise and have the same elements in each tie are the same

  heads : (x y : X) (xs ys : List X) → x ∷ xs ≡ y ∷ ys → x ≡ y
  heads x y xs ys e = cc

  tails : (x y : X) (xs ys : List X) → x ∷ xs ≡ y ∷ ys → xs ≡ ys
  tails x y xs ys e = cc

  left-tied : (b : Bool) (x y : X) (xs ys : List X) → x ≡ y → (if b then x ∷ xs else xs) ≡ (if b then y ∷ ys else ys) → xs ≡ ys
  left-tied true x y xs ys same e = tails x y xs ys e
  left-tied false x y xs ys same e = e

  pub same_order : (xs ys : List X) → Rises key xs → Rises key ys → ((x : X) → filter (tie x) xs ≡ filter (tie x) ys) → xs ≡ ys
  same_order [] [] p q e = refl
  same_order [] (y ∷ ys) p q e = absurd (no_front (e y ∙ own-tied y ys))
    where
      no_front : [] ≡ y ∷ filter (tie y) ys → ⊥
      no_front n = cc
  same_order (x ∷ xs) [] p q e = absurd (no_front (sym (e x) ∙ own-tied x xs))
    where
      no_front : [] ≡ x ∷ filter (tie x) xs → ⊥
      no_front n = cc
  same_order (x ∷ xs) (y ∷ ys) p q e =
      let low : key x ≤ key y = above-tied (key x) y (x ∷ xs) (filter (tie y) ys) (omega arith, p.0) (e y ∙ own-tied y ys) in
      let high : key y ≤ key x = above-tied (key y) x (y ∷ ys) (filter (tie x) xs) (omega arith, q.0) (sym (e x) ∙ own-tied x xs) in
      let level : key x ≡ key y = omega (arith, low, high) in
      let same : x ≡ y = heads x y (filter (tie x) xs) (filter (tie x) ys)
      (sym (own-tied x xs) ∙ e x ∙ ap (λ b. if b then y ∷ filter (tie x) ys else filter (tie x) ys) (tie-is x y level)) in
      let rest : xs ≡ ys = same_order xs ys p.1 q.1 (λ z. left-tied (tie z x) x y (filter (tie z) xs) (filter (tie z) ys) same
      (e z ∙ ap (λ (w : X). if tie z w then y ∷ filter (tie z) ys else filter (tie z) ys) (sym same))) in
      ap (λ (w : X). w ∷ xs) same ∙ ap (λ (zs : List X). y ∷ zs) rest

  pub rises-drop : (n : ℕ) (xs : List X) → Rises key xs → Rises key (drop n xs)
  rises-drop zero xs h = h
  rises-drop (suc n) [] h = tt
  rises-drop (suc n) (x ∷ xs) h = rises-drop n xs h.1

  -- none is below a number that the first one isn't below
  pub above-front : (n : ℕ) (x : X) (xs : List X) → Rises key (x ∷ xs) → n ≤ key x → Above key n (x ∷ xs)
  above-front n x xs h le = (le, above-lower n (key x) xs le h.0)

  -- ---- elements that are put in one by one

  above-placed : (n : ℕ) (x : X) (ys : List X) → n ≤ key x → Above key n ys → Above key n (placed_in key x ys)
  above-placed n x [] le h = (le, tt)
  above-placed n x (y ∷ ys) le h = by (nat_le (key x) (key y)) (above-placed n x ys le h.1)
    where
      by : (b : Bool) → Above key n (placed_in key x ys) → Above key n (if b then x ∷ y ∷ ys else y ∷ placed_in key x ys)
      by true so = (le, h)
      by false so = (h.0, so)

  rises-placed : (x : X) (ys : List X) → Rises key ys → Rises key (placed_in key x ys)
  rises-placed x [] h = (tt, tt)
  rises-placed x (y ∷ ys) h = by (nat_le (key x) (key y)) refl (rises-placed x ys h.1)
    where
      by : (b : Bool) → nat_le (key x) (key y) ≡ b → Rises key (placed_in key x ys) → Rises key (if b then x ∷ y ∷ ys else y ∷ placed_in key x ys)
      by true t so = let le : key x ≤ key y = leb-true (key x) (key y) t in ((le, above-lower (key x) (key y) ys le h.0), h)
      by false t so =
          let lt : key y < key x = leb-false (key x) (key y) t in
          (above-placed (key y) x ys (omega (arith, lt)) h.0, so)

  pub in_order-rises : (xs : List X) → Rises key (in_order key xs)
  in_order-rises [] = tt
  in_order-rises (x ∷ xs) = rises-placed x (in_order key xs) (in_order-rises xs)

  -- an element that doesn't tie with one that comes first passes it
  swapped : (p q : Bool) (x y : X) (zs : List X) → (p ≡ true → q ≡ false)
      → (if q then y ∷ (if p then x ∷ zs else zs) else (if p then x ∷ zs else zs)) ≡ (if p then x ∷ (if q then y ∷ zs else zs) else (if q then y ∷ zs else zs))
  swapped true true x y zs h = absurd (true≢false (h refl))
  swapped true false x y zs h = refl
  swapped false true x y zs h = refl
  swapped false false x y zs h = refl

  ties-placed : (z x : X) (ys : List X) → filter (tie z) (placed_in key x ys) ≡ filter (tie z) (x ∷ ys)
  ties-placed z x [] = refl
  ties-placed z x (y ∷ ys) = by (nat_le (key x) (key y)) refl (ties-placed z x ys)
    where
      by : (b : Bool) → nat_le (key x) (key y) ≡ b → filter (tie z) (placed_in key x ys) ≡ filter (tie z) (x ∷ ys) → filter (tie z) (if b then x ∷ y ∷ ys else y ∷ placed_in key x ys) ≡ filter (tie z) (x ∷ y ∷ ys)
      by true t so = refl
      by false t so =
          let lt : key y < key x = leb-false (key x) (key y) t in
          ap (λ (zs : List X). if tie z y then y ∷ zs else zs) so
          ∙ swapped (tie z x) (tie z y) x y (filter (tie z) ys) (λ h. let same : key z ≡ key x = tie-same z x h in tie-more z y (omega (arith, lt, same)))

  pub in_order-ties : (z : X) (xs : List X) → filter (tie z) (in_order key xs) ≡ filter (tie z) xs
  in_order-ties z [] = refl
  in_order-ties z (x ∷ xs) = ties-placed z x (in_order key xs) ∙ ap (λ (zs : List X). if tie z x then x ∷ zs else zs) (in_order-ties z xs)

  -- ---- a stable sort

  next-above : (x y : X) (ys : List X) → IsSortedByKey key nat_cmp (x ∷ y ∷ ys) → key x ≤ key y
  next-above x y ys h = by (cases_lt (key y) (key x))
    where
      by : (key y < key x) ⊎ (key x ≤ key y) → key x ≤ key y
      by (inl less) = absurd (true≢false (sym (lt-is (key y) (key x) less) ∙ h 0 x (omega arith) (omega arith)))
      by (inr le) = le

  sorted-tail : (x : X) (ys : List X) → IsSortedByKey key nat_cmp (x ∷ ys) → IsSortedByKey key nat_cmp ys
  sorted-tail x ys h = λ k d low high.
      let next : suc (k + 1) ≡ suc k + 1 = omega arith in
      ap (λ (m : ℕ). is_lt (nat_cmp (key (get_or (x ∷ ys) m d)) (key (get_or ys k d)))) next ∙ h (suc k) d (omega arith) (omega (arith, high))

  rises-above : (x : X) (ys : List X) → Rises key ys → IsSortedByKey key nat_cmp (x ∷ ys) → Above key (key x) ys
  rises-above x [] r h = tt
  rises-above x (y ∷ ys) r h = let le = next-above x y ys h in (le, above-lower (key x) (key y) ys le r.0)

  rises-sorted : (xs : List X) → IsSortedByKey key nat_cmp xs → Rises key xs
  rises-sorted [] h = tt
  rises-sorted (x ∷ xs) h = let r = rises-sorted xs (sorted-tail x xs h) in (rises-above x xs r h, r)

  -- what it makes of a list is the list in order
  pub stable-sort : (xs ys : List X) → IsSortedByKey key nat_cmp ys → IsStableByKey key nat_cmp xs ys → ys ≡ in_order key xs
  stable-sort xs ys sorted stable = same_order ys (in_order key xs) (rises-sorted ys sorted) (in_order-rises xs) (λ z. stable z ∙ sym (in_order-ties z xs))
