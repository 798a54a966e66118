-- Laws of what an index keeps.
use Rattle.std.proofs.Common.{◌≡◌, ◌∙◌, refl, sym, subst, ℕ, zero, suc, ◌+◌, List, [], ◌∷◌, ◌++◌, All, Option, Some, None, length, set, slice_get, arith, ap}
use Rattle.std.proofs.lemmas.List.Elements.{All-set}
use Rattle.std.proofs.lemmas.Option.{slice_get_within, get_or_from_slice_get}
use Rattle.redl_index.specs.declared.revision.Revision.{Revision}
use Rattle.redl_index.specs.Revisions.{IsListable, AreNumbered, IsIndex}
use Rattle.redl_index.specs.Inside.Tallies.{with_one_more, replaced}
use Rattle.redl_index.proofs.TallyLaws.{length-replaced}

told-more : (r : Revision) → IsListable r → IsListable (with_one_more r)
told-more r told = record { named = told.named; author = told.author; moment = told.moment }

all-get : {X : Type 0} (P : X → Type 0) (xs : List X) (i : ℕ) (x : X) → All P xs → slice_get xs i ≡ Some x → P x
all-get P xs i x all is = subst P (get_or_from_slice_get xs i x x is) (all i x (slice_get_within xs i x is))

told-replaced : (rs : List Revision) (place : ℕ) → All IsListable rs → All IsListable (replaced rs place (slice_get rs place))
told-replaced rs place told = by (slice_get rs place) refl
  where
    by : (o : Option Revision) → slice_get rs place ≡ o → All IsListable (replaced rs place o)
    by None is = told
    by (Some r) is = All-set IsListable rs place (with_one_more r) (told-more r (all-get IsListable rs place r told is)) told

-- revisions whose numbers count from this one
abbrev pub AreNumberedFrom : ℕ → List Revision → Type 0
AreNumberedFrom first revisions = (k : ℕ) (revision : Revision) → slice_get revisions k ≡ Some revision → revision.number ≡ k + first

-- a further revision with the next number
numbers-from-more : (first : ℕ) (rs : List Revision) (r : Revision) → AreNumberedFrom first rs → r.number ≡ length rs + first → AreNumberedFrom first (rs ++ r ∷ [])
numbers-from-more first [] r numbers is zero x at = let same : r ≡ x = cc in ap (λ (y : Revision). y.number) (sym same) ∙ is
numbers-from-more first [] r numbers is (suc k) x at = absurd (cc)
numbers-from-more first (q ∷ rs) r numbers is zero x at = numbers zero x at
numbers-from-more first (q ∷ rs) r numbers is (suc k) x at =
    numbers-from-more (first + 1) rs r (λ j y there. numbers (suc j) y there ∙ shifted j) (is ∙ shifted (length rs)) k x at ∙ sym (shifted k)
  where
    shifted : (n : ℕ) → suc n + first ≡ n + (first + 1)
    shifted n = omega arith

pub numbers-more : (rs more : List Revision) (r : Revision) → more ≡ rs ++ r ∷ [] → AreNumbered rs → r.number ≡ length rs + 1 → AreNumbered more
numbers-more rs more r is numbers next = subst AreNumbered (sym is) (numbers-from-more 1 rs r numbers next)

-- where a revision gives way to one with the same number, each place has the number that it had
number-kept : (rs : List Revision) (place : ℕ) (old new x : Revision) → slice_get rs place ≡ Some old → new.number ≡ old.number
    → (k : ℕ) → slice_get (set rs place new) k ≡ Some x → (y : Revision) × (slice_get rs k ≡ Some y) × (x.number ≡ y.number)
number-kept [] place old new x there same k at = absurd (cc)
number-kept (r ∷ rs) zero old new x there same zero at =
    let is_old : r ≡ old = cc in
    let is_new : new ≡ x = cc in
    (r, refl, ap (λ (y : Revision). y.number) (sym is_new) ∙ same ∙ ap (λ (y : Revision). y.number) (sym is_old))
number-kept (r ∷ rs) zero old new x there same (suc k) at = (x, at, refl)
number-kept (r ∷ rs) (suc place) old new x there same zero at = (x, at, refl)
number-kept (r ∷ rs) (suc place) old new x there same (suc k) at = number-kept rs place old new x there same k at

numbers-replaced : (rs : List Revision) (place : ℕ) → AreNumbered rs → AreNumbered (replaced rs place (slice_get rs place))
numbers-replaced rs place numbers = by (slice_get rs place) refl
  where
    by : (o : Option Revision) → slice_get rs place ≡ o → AreNumbered (replaced rs place o)
    by None is k x at = numbers k x at
    by (Some r) is k x at =
        let had = number-kept rs place r (with_one_more r) x is refl k at in
        had.2 ∙ numbers k had.0 had.1

-- an index with a member counted is an index
pub index-replaced : (rs more : List Revision) (place : ℕ) → more ≡ replaced rs place (slice_get rs place) → IsIndex rs → IsIndex more
index-replaced rs more place is index = record {
  told = let P : List Revision → Type 0 = All IsListable in subst P (sym is) (told-replaced rs place index.told);
  numbers = subst AreNumbered (sym is) (numbers-replaced rs place index.numbers);
  few = omega (arith, index.few, ap length is, length-replaced rs place (slice_get rs place));
}
