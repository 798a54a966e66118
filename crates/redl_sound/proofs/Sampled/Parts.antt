-- Lists that are put together of a part for each number: what a test keeps of them, where only the part of one number passes.
use Rattle.std.proofs.Common.{◌≡◌, ◌≢◌, ℕ, zero, suc, ◌+◌, ◌<◌, ◌≤◌, Bool, true, false, cond, List, [], ◌∷◌, ◌++◌, Some, refl, ap, ◌∙◌, append-nil, arith}
use Rattle.std.proofs.lemmas.List.Elements.{filter-append}
use Rattle.std.specs.List.{filter, flat_map, range_with_len}
use Rattle.std.specs.Prelude.{find, eqb}
use Rattle.std.proofs.lemmas.Bool.{eqb-true, eqb-false}

-- nothing passes where no part of these numbers does
pub none_passes : {X : Type 0} (test : X → Bool) (part : ℕ → List X) (from count : ℕ) → ((j : ℕ) → from ≤ j → j < from + count → filter test (part j) ≡ [])
    → filter test (flat_map part (range_with_len from count)) ≡ []
none_passes test part from zero h = refl
none_passes test part from (suc count) h =
    filter-append test (part from) (flat_map part (range_with_len (from + 1) count))
    ∙ ap (λ xs. xs ++ filter test (flat_map part (range_with_len (from + 1) count))) (h from (omega arith) (omega arith))
    ∙ none_passes test part (from + 1) count (λ j low high. h j (omega (arith, low)) (omega (arith, high)))

-- what passes is of the one part that does
pub one_passes : {X : Type 0} (test : X → Bool) (part : ℕ → List X) (k from count : ℕ) → from ≤ k → k < from + count
    → ((j : ℕ) → j < from + count → j ≢ k → filter test (part j) ≡ []) → filter test (flat_map part (range_with_len from count)) ≡ filter test (part k)
one_passes test part k from zero low high h = absurd (omega (arith, low, high))
one_passes test part k from (suc count) low high h =
    filter-append test (part from) (flat_map part (range_with_len (from + 1) count))
    ∙ by (eqb from k) refl (λ above. one_passes test part k (from + 1) count above (omega (arith, high)) (λ j below. h j (omega (arith, below))))
  where
    by : (same : Bool) → eqb from k ≡ same → (from + 1 ≤ k → filter test (flat_map part (range_with_len (from + 1) count)) ≡ filter test (part k))
        → filter test (part from) ++ filter test (flat_map part (range_with_len (from + 1) count)) ≡ filter test (part k)
    by true e later =
        let same = eqb-true from k e in
        ap (λ xs. filter test (part from) ++ xs)
        (none_passes test part (from + 1) count (λ j above below. h j (omega (arith, below)) (λ is. omega (arith, above, same, is))))
        ∙ append-nil (filter test (part from)) ∙ ap (λ j. filter test (part j)) same
    by false e later =
        let other = eqb-false from k e in
        ap (λ xs. xs ++ filter test (flat_map part (range_with_len (from + 1) count))) (h from (omega arith) other)
        ∙ later (omega (arith, low, other))

-- the first that passes, where it is the only one
pub found_alone : {X : Type 0} (test : X → Bool) (xs : List X) (x : X) → filter test xs ≡ x ∷ [] → find test xs ≡ Some x
found_alone {X} test [] x e = absurd (cc e)
found_alone {X} test (y ∷ ys) x e = by (test y) refl e (found_alone test ys x)
  where
    head : (zs : List X) → y ∷ zs ≡ x ∷ [] → Some y ≡ Some x
    head zs f = cc f

    by : (b : Bool) → test y ≡ b → cond b (y ∷ filter test ys) (filter test ys) ≡ x ∷ [] → (filter test ys ≡ x ∷ [] → find test ys ≡ Some x) → cond b (Some y) (find test ys) ≡ Some x
    by true k f ih = head (filter test ys) f
    by false k f ih = ih f
