-- Labels after pairs are the least numbers of those that belong together.
use Rattle.std.proofs.Common.{◌≡◌, ◌≤◌, ◌<◌, ◌⊎◌, inl, inr, ℕ, zero, suc, List, [], ◌∷◌, ◌++◌, length, fold, get_or, All, Contains, min, refl, sym, subst, ◌∙◌, ap, append_assoc, arith}
use Rattle.std.proofs.Math.ListN.{get_or-map}
use Rattle.std.proofs.Math.Nat.{min-eq_left, min-eq_right}
use Rattle.std.proofs.lemmas.Bool.{cases_lt}
use Rattle.std.proofs.lemmas.Bool.Decides.{eqb_tells}
use Rattle.std.proofs.lemmas.List.{append-nil, length-map}
use Rattle.std.proofs.lemmas.List.FromFn.{length-range_with_len}
use Rattle.std.specs.List.{range_with_len}
use Rattle.std.proofs.lemmas.List.Elements.{Contains-append_left, Contains-append_right, Contains-append_cases}
use Rattle.redl_classes.specs.Together.{Together, paired, itself, turned, through}
use Rattle.redl_classes.specs.Least.{AreLeast, IsBelow, joined, least_numbers_of, merged}
use Rattle.redl_classes.specs.declared.pair.Pair.{Pair}
use Rattle.redl_classes.proofs.MergedLaws.{merged-zero, merged-one, merged-two, merged-down}
use Rattle.redl_classes.proofs.ParentLaws.{forest-alone, own-parent}

-- ---- more pairs keep together what is together

pub Together-more : (pairs more : List Pair) {a b : ℕ} → Together pairs a b → Together (pairs ++ more) a b
Together-more pairs more (paired pair held) = paired pair (Contains-append_left pairs more pair held)
Together-more pairs more (itself a) = itself a
Together-more pairs more (turned known) = turned (Together-more pairs more known)
Together-more pairs more (through one two) = through (Together-more pairs more one) (Together-more pairs more two)

-- ---- what labels are after some pairs

pub record AreLabels (pairs : List Pair) (labels : List ℕ) : Type 0 where
  pub together : (number : ℕ) → number < length labels → Together pairs number (get_or labels number 0)
  pub down : (number : ℕ) → get_or labels number 0 ≤ number
  pub shared : (pair : Pair) → Contains pairs pair → get_or labels pair.one 0 ≡ get_or labels pair.two 0

-- what is together has one label
pub label_of-together : (pairs : List Pair) (labels : List ℕ) → AreLabels pairs labels → {a b : ℕ} → Together pairs a b → get_or labels a 0 ≡ get_or labels b 0
label_of-together pairs labels known (paired pair held) = known.shared pair held
label_of-together pairs labels known (itself a) = refl
label_of-together pairs labels known (turned other) = sym (label_of-together pairs labels known other)
label_of-together pairs labels known (through one two) = label_of-together pairs labels known one ∙ label_of-together pairs labels known two

-- so they are the least ones
pub least-labels : (pairs : List Pair) (labels : List ℕ) → AreLabels pairs labels → AreLeast pairs labels
least-labels pairs labels known number bound = record {
  together = known.together number bound;
  first = λ other held. subst (λ label. label ≤ other) (sym (label_of-together pairs labels known held)) (known.down other);
}

-- ---- one pair more

only : {X : Type 0} (x y : X) (k : ℕ) → k < 1 → get_or (x ∷ []) k y ≡ y → x ≡ y
only x y zero bound same = same
only x y (suc k) bound same = absurd (omega (arith, bound))

pub Contains-one : (x y : Pair) → Contains (x ∷ []) y → x ≡ y
Contains-one x y held = only x y held.0 held.1 held.2

module _ (done : List Pair) (labels : List ℕ) (known : AreLabels done labels) (pair : Pair) (below : IsBelow (length labels) pair) where
  one : ℕ
  one = get_or labels pair.one 0

  two : ℕ
  two = get_or labels pair.two 0

  all : List Pair
  all = done ++ pair ∷ []

  kept : {a b : ℕ} → Together done a b → Together all a b
  unfolding all
  kept held = Together-more done (pair ∷ []) held

  joins : Together all pair.one pair.two
  unfolding all
  joins = paired pair (Contains-append_right done (pair ∷ []) pair (0, (let first : 0 < 1 = omega arith in first), refl))

  to_one : Together all pair.one one
  unfolding one
  to_one = kept (known.together pair.one below.one)

  to_two : Together all pair.one two
  unfolding two
  to_two = through joins (kept (known.together pair.two below.two))

  to_least : Together all pair.one (min one two)
  to_least = elim (cases_lt one two) [
    | inl less ↦ let same : min one two ≡ one = min-eq_left (omega (arith, less)) in subst (λ n. Together all pair.one n) (sym same) to_one
    | inr more ↦ let same : min one two ≡ two = min-eq_right more in subst (λ n. Together all pair.one n) (sym same) to_two
  ]

  merged-together : (number label : ℕ) → Together all number label → Together all number (merged one two label)
  merged-together number label held = elim (eqb_tells label one) [
    | inl same ↦ rw same.0 (through (subst (λ n. Together all number n) same.1 held) (through (turned to_one) to_least))
    | inr other ↦ rw other.0 (elim (eqb_tells label two) [
      | inl same ↦ rw same.0 (through (subst (λ n. Together all number n) same.1 held) (through (turned to_two) to_least))
      | inr wrong ↦ rw wrong.0 held
    ])
  ]

  relabelled : (number : ℕ) → get_or (joined labels pair) number 0 ≡ merged one two (get_or labels number 0)
  unfolding one two
  relabelled number =
      ap (λ d. get_or (joined labels pair) number d) (sym (merged-zero (get_or labels pair.one 0) (get_or labels pair.two 0)))
      ∙ get_or-map (merged (get_or labels pair.one 0) (get_or labels pair.two 0)) labels number 0

  shares : (other : Pair) → (Contains done other ⊎ Contains (pair ∷ []) other) → get_or (joined labels pair) other.one 0 ≡ get_or (joined labels pair) other.two 0
  unfolding one two
  shares other (inl old) = relabelled other.one ∙ ap (merged one two) (known.shared other old) ∙ sym (relabelled other.two)
  shares other (inr new) =
      subst (λ p. get_or (joined labels pair) p.one 0 ≡ get_or (joined labels pair) p.two 0) (Contains-one pair other new)
      (relabelled pair.one ∙ merged-one one two ∙ sym (merged-two one two) ∙ sym (relabelled pair.two))

  pub AreLabels-more : AreLabels (done ++ pair ∷ []) (joined labels pair)
  unfolding all
  AreLabels-more = record {
    together = λ number bound.
        let within : number < length labels = subst (λ n. number < n) (length-map labels (merged (get_or labels pair.one 0) (get_or labels pair.two 0))) bound in
        subst (λ n. Together all number n) (sym (relabelled number)) (merged-together number (get_or labels number 0) (kept (known.together number within)));
    down = λ number.
        let here : merged one two (get_or labels number 0) ≤ get_or labels number 0 = merged-down one two (get_or labels number 0) in
        let was : get_or labels number 0 ≤ number = known.down number in
        subst (λ n. n ≤ number) (sym (relabelled number)) (omega (arith, here, was));
    shared = λ other held. shares other (Contains-append_cases done (pair ∷ []) other held);
  }

-- ---- all pairs

pub AreLabels-fold : (count : ℕ) (done pairs : List Pair) (labels : List ℕ) → length labels ≡ count → AreLabels done labels → All (IsBelow count) pairs
    → AreLabels (done ++ pairs) (fold joined labels pairs)
AreLabels-fold count done [] labels same known below = rw (append-nil done) known
AreLabels-fold count done (pair ∷ pairs) labels same known below =
    let first : IsBelow (length labels) pair = subst (λ n. IsBelow n pair) (sym same) (below 0 pair (omega arith)) in
    subst (λ all. AreLabels all (fold joined (joined labels pair) pairs)) (append_assoc done (pair ∷ []) pairs)
    (AreLabels-fold count (done ++ pair ∷ []) pairs (joined labels pair)
    (length-map labels (merged (get_or labels pair.one 0) (get_or labels pair.two 0)) ∙ same)
    (AreLabels-more done labels known pair first)
    (λ k d bound. below (suc k) d (omega (arith, bound))))

pub AreLabels-alone : (count : ℕ) → AreLabels [] (range_with_len 0 count)
AreLabels-alone count = record {
  together = λ number bound.
      let own : get_or (range_with_len 0 count) number 0 ≡ number = own-parent count number (subst (λ n. number < n) (length-range_with_len 0 count) bound) in
      subst (λ n. Together [] number n) (sym own) (itself number);
  down = forest-alone count;
  shared = λ pair held. absurd (omega (arith, held.1));
}

pub least-after : (count : ℕ) (pairs : List Pair) → All (IsBelow count) pairs → AreLeast pairs (least_numbers_of count pairs)
least-after count pairs below = least-labels pairs (least_numbers_of count pairs)
    (AreLabels-fold count [] pairs (range_with_len 0 count) (length-range_with_len 0 count) (AreLabels-alone count) below)

pub length-least_numbers_of : (count : ℕ) (pairs : List Pair) (labels : List ℕ) → length labels ≡ count → length (fold joined labels pairs) ≡ count
length-least_numbers_of count [] labels same = same
length-least_numbers_of count (pair ∷ pairs) labels same = length-least_numbers_of count pairs (joined labels pair) (length-map labels (merged (get_or labels pair.one 0) (get_or labels pair.two 0)) ∙ same)
