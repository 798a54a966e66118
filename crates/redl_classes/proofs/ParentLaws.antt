-- Numbers that lead to lesser ones keep their labels.
use Rattle.std.proofs.Common.{◌≡◌, ◌≢◌, ◌≤◌, ◌<◌, ◌+◌, min, inl, inr, ℕ, zero, suc, List, [], ◌∷◌, ◌++◌, length, map, get_or, set, refl, sym, subst, ◌∙◌, ap, arith, get_or-set_other, get_or-set_same}
use Rattle.std.proofs.lemmas.Bool.{cases_eq, cases_lt}
use Rattle.std.proofs.Math.Nat.{min-eq_left, min-eq_right}
use Rattle.std.proofs.lemmas.List.{get_or-map, get_or_default, get_or_past, length-map, length-set, same_lists}
use Rattle.std.proofs.lemmas.List.FromFn.{get_or-range_with_len, length-range_with_len}
use Rattle.std.specs.List.{range_with_len}
use Rattle.redl_classes.specs.Inside.Parents.{IsForest, IsLabelled}
use Rattle.redl_classes.specs.Least.{joined, merged}
use Rattle.redl_classes.specs.declared.pair.Pair.{Pair}
use Rattle.redl_classes.proofs.MergedLaws.{merged-one, merged-two, merged-other}

pub range-more : (from n last : ℕ) → from + n ≡ last → range_with_len from (suc n) ≡ range_with_len from n ++ last ∷ []
range-more from zero last same = let same' : from ≡ last = omega (arith, same) in ap (λ first. first ∷ []) same'
range-more from (suc n) last same = let same' : (from + 1) + n ≡ last = omega (arith, same) in ap (λ rest. from ∷ rest) (range-more (from + 1) n last same')

-- ---- one number gets another parent

module _ (parents : List ℕ) (at to : ℕ) (within : at < length parents) where
  pub forest-set : IsForest parents → to ≤ at → IsForest (set parents at to)
  forest-set down below number = elim (cases_eq number at) [
    | inl here ↦ rw here (rw (get_or-set_same parents at to 0 within) below)
    | inr other ↦ rw (get_or-set_other parents at number to 0 other) (down number)
  ]

  pub labelled-set : (labels : List ℕ) → IsLabelled parents labels → get_or labels to 0 ≡ get_or labels at 0 → to < at → IsLabelled (set parents at to) labels
  labelled-set labels known same less = record {
    count = known.count ∙ sym (length-set parents at to);
    way = λ number bound. elim (cases_eq number at) [
      | inl here ↦ rw here (rw (get_or-set_same parents at to 0 within) same)
      | inr other ↦ rw (get_or-set_other parents at number to 0 other) (known.way number (subst (λ n. number < n) (length-set parents at to) bound))
    ];
    end = λ number bound. elim (cases_eq number at) [
      | inl here ↦ λ fixed. absurd (omega (arith, here, less, sym (get_or-set_same parents at to 0 within) ∙ ap (λ n. get_or (set parents at to) n 0) (sym here) ∙ fixed))
      | inr other ↦ λ fixed. known.end number (subst (λ n. number < n) (length-set parents at to) bound) (sym (get_or-set_other parents at number to 0 other) ∙ fixed)
    ];
  }

-- the way from a number, in parents that were others
pub record Leads (before : List ℕ) (number : ℕ) (parents : List ℕ) (at : ℕ) : Type 0 where
  pub forest : IsForest parents
  pub within : at < length parents
  pub labels : (labels : List ℕ) → IsLabelled before labels → IsLabelled parents labels
  pub label : (labels : List ℕ) → IsLabelled before labels → get_or labels number 0 ≡ get_or labels at 0

-- one step of it, where each second number gets the parent of its parent
pub halved : (before : List ℕ) (number : ℕ) (parents : List ℕ) (at : ℕ) → Leads before number parents at
    → get_or parents at 0 ≢ at
    → Leads before number (set parents at (get_or parents (get_or parents at 0) 0)) (get_or parents (get_or parents at 0) 0)
halved before number parents at led moves =
    let parent : ℕ = get_or parents at 0 in
    let next : ℕ = get_or parents parent 0 in
    let first : get_or parents at 0 ≤ at = led.forest at in
    let second : get_or parents (get_or parents at 0) 0 ≤ get_or parents at 0 = led.forest (get_or parents at 0) in
    let less : get_or parents (get_or parents at 0) 0 < at = omega (arith, first, second, moves) in
    let parent_within : get_or parents at 0 < length parents = omega (arith, first, led.within) in
    let same = λ (labels : List ℕ) (known : IsLabelled before labels).
    (led.labels labels known).way (get_or parents at 0) parent_within ∙ (led.labels labels known).way at led.within in
    record {
      forest = forest-set parents at next led.within led.forest (omega (arith, less));
      within = subst (λ n. next < n) (sym (length-set parents at next)) (omega (arith, less, led.within));
      labels = λ labels known. labelled-set parents at next led.within labels (led.labels labels known) (same labels known) less;
      label = λ labels known. led.label labels known ∙ sym (same labels known);
    }

-- ---- two ends are joined

module _ (parents labels : List ℕ) (f : ℕ → ℕ) (hi lo : ℕ) (down : IsForest parents) (known : IsLabelled parents labels) (hi_within : hi < length parents) (ordered : lo ≤ hi) (of_hi : get_or labels hi 0 ≡ hi) (of_lo : get_or labels lo 0 ≡ lo) (to_lo : f hi ≡ lo) (stays_lo : f lo ≡ lo) (stays : (k : ℕ) → k ≢ hi → f k ≡ k) where
  relabelled : (number : ℕ) → number < length parents → get_or (map f labels) number 0 ≡ f (get_or labels number 0)
  relabelled number bound = get_or-map f labels number 0 0 (subst (λ n. number < n) (sym known.count) bound)

  way_of_lo : get_or (map f labels) lo 0 ≡ lo
  way_of_lo = relabelled lo (omega (arith, ordered, hi_within)) ∙ ap f of_lo ∙ stays_lo

  way_of_hi : get_or (map f labels) hi 0 ≡ lo
  way_of_hi = relabelled hi hi_within ∙ ap f of_hi ∙ to_lo

  pub labelled-joined : IsLabelled (set parents hi lo) (map f labels)
  labelled-joined = record {
    count = length-map labels f ∙ known.count ∙ sym (length-set parents hi lo);
    way = λ number bound.
        let within : number < length parents = subst (λ n. number < n) (length-set parents hi lo) bound in
        elim (cases_eq number hi) [
          | inl here ↦ rw here (rw (get_or-set_same parents hi lo 0 hi_within) (way_of_lo ∙ sym way_of_hi))
          | inr other ↦ rw (get_or-set_other parents hi number lo 0 other)
              (let low : get_or parents number 0 ≤ number = down number in
              relabelled (get_or parents number 0) (omega (arith, low, within)) ∙ ap f (known.way number within) ∙ sym (relabelled number within))
        ];
    end = λ number bound.
        let within : number < length parents = subst (λ n. number < n) (length-set parents hi lo) bound in
        elim (cases_eq number hi) [
          | inl here ↦ λ fixed. rw here (way_of_hi ∙ sym (get_or-set_same parents hi lo 0 hi_within) ∙ ap (λ n. get_or (set parents hi lo) n 0) (sym here) ∙ fixed ∙ here)
          | inr other ↦ λ fixed.
              let own : get_or labels number 0 ≡ number = known.end number within (sym (get_or-set_other parents hi number lo 0 other) ∙ fixed) in
              relabelled number within ∙ ap f own ∙ stays number other
        ];
  }

-- the labels of the ends of a pair, in either order
module _ (parents labels : List ℕ) (pair : Pair) (one two : ℕ) (down : IsForest parents) (known : IsLabelled parents labels) (one_within : one < length parents) (two_within : two < length parents) (of_one : get_or labels pair.one 0 ≡ one) (end_one : get_or labels one 0 ≡ one) (of_two : get_or labels pair.two 0 ≡ two) (end_two : get_or labels two 0 ≡ two) where
  merges : map (merged one two) labels ≡ joined labels pair
  merges = ap (λ label. map (merged label two) labels) (sym of_one) ∙ ap (λ label. map (merged (get_or labels pair.one 0) label) labels) (sym of_two)

  pub joined-less : one < two → IsLabelled (set parents two one) (joined labels pair)
  joined-less less =
      let to_one : min one two ≡ one = min-eq_left (omega (arith, less)) in
      let ordered : one ≤ two = omega (arith, less) in
      let apart = λ (k : ℕ) (other : k ≢ two). elim (cases_eq k one) as (λ _. merged one two k ≡ k) [
        | inl here ↦ rw here (merged-one one two ∙ to_one)
        | inr not_one ↦ merged-other one two k not_one other
      ] in
      subst (λ made. IsLabelled (set parents two one) made) merges
      (labelled-joined parents labels (merged one two) two one down known two_within ordered end_two end_one
      (merged-two one two ∙ to_one) (merged-one one two ∙ to_one) apart)

  pub joined-more : two ≤ one → IsLabelled (set parents one two) (joined labels pair)
  joined-more ordered =
      let to_two : min one two ≡ two = min-eq_right ordered in
      let apart = λ (k : ℕ) (other : k ≢ one). elim (cases_eq k two) as (λ _. merged one two k ≡ k) [
        | inl here ↦ rw here (merged-two one two ∙ to_two)
        | inr not_two ↦ merged-other one two k other not_two
      ] in
      subst (λ made. IsLabelled (set parents one two) made) merges
      (labelled-joined parents labels (merged one two) one two down known one_within ordered end_one end_two
      (merged-one one two ∙ to_two) (merged-two one two ∙ to_two) apart)

-- ---- each leads to its end at once

-- so many of the first numbers do, and the others lead where they led before
pub record Settles (before parents : List ℕ) (done : ℕ) : Type 0 where
  pub first : (labels : List ℕ) → IsLabelled before labels → (number : ℕ) → number < done → get_or parents number 0 ≡ get_or labels number 0
  pub others : (number : ℕ) → done ≤ number → get_or parents number 0 ≡ get_or before number 0

module _ (before parents : List ℕ) (done : ℕ) (known : Settles before parents done) (down : IsForest before) (within : done < length before) (same : length parents ≡ length before) where
  now : get_or parents done 0 ≡ get_or before done 0
  now = known.others done (omega arith)

  -- it leads to where its parent leads
  to_end : (labels : List ℕ) → IsLabelled before labels → get_or parents (get_or parents done 0) 0 ≡ get_or labels done 0
  to_end labels labelled = elim (cases_eq (get_or before done 0) done) [
    | inl fixed ↦ ap (λ n. get_or parents n 0) (now ∙ fixed) ∙ now ∙ fixed ∙ sym (labelled.end done within fixed)
    | inr moves ↦
        let low : get_or before done 0 ≤ done = down done in
        let less : get_or before done 0 < done = omega (arith, low, moves) in
        ap (λ n. get_or parents n 0) now ∙ known.first labels labelled (get_or before done 0) less ∙ labelled.way done within
  ]

  pub settles-more : Settles before (set parents done (get_or parents (get_or parents done 0) 0)) (done + 1)
  settles-more =
      let next : ℕ = get_or parents (get_or parents done 0) 0 in
      let within' : done < length parents = omega (arith, within, same) in
      record {
        first = λ labels labelled number less. elim (cases_eq number done) [
          | inl here ↦ rw here (get_or-set_same parents done next 0 within' ∙ to_end labels labelled)
          | inr other ↦ let below : number < done = omega (arith, less, other) in
              get_or-set_other parents done number next 0 other ∙ known.first labels labelled number below
        ];
        others = λ number above.
            let other : number ≢ done = omega (arith, above) in
            let still : done ≤ number = omega (arith, above) in
            get_or-set_other parents done number next 0 other ∙ known.others number still;
      }

pub settled : (before parents : List ℕ) (done : ℕ) → Settles before parents done → length parents ≡ length before → length before ≤ done
    → (labels : List ℕ) → IsLabelled before labels → parents ≡ labels
settled before parents done known same all labels labelled =
    same_lists parents labels (same ∙ sym labelled.count) (λ k d bound.
    let below : k < done = omega (arith, bound, same, all) in
    let bound' : k < length labels = omega (arith, bound, same, labelled.count) in
    get_or_default parents k d 0 bound ∙ known.first labels labelled k below ∙ get_or_default labels k 0 d bound')

-- ---- each number alone

pub own-parent : (count number : ℕ) → number < count → get_or (range_with_len 0 count) number 0 ≡ number
own-parent count number bound = get_or-range_with_len 0 count number 0 bound ∙ omega arith

pub forest-alone : (count : ℕ) → IsForest (range_with_len 0 count)
forest-alone count number = elim (cases_lt number count) [
  | inl within ↦ let own : get_or (range_with_len 0 count) number 0 ≡ number = own-parent count number within in omega (arith, own)
  | inr past ↦
      let outside : length (range_with_len 0 count) ≤ number = rw (length-range_with_len 0 count) past in
      let none : get_or (range_with_len 0 count) number 0 ≡ 0 = get_or_past (range_with_len 0 count) number 0 outside in omega (arith, none)
]

pub labelled-alone : (count : ℕ) → IsLabelled (range_with_len 0 count) (range_with_len 0 count)
labelled-alone count = record {
  count = refl;
  way = λ number bound. ap (λ n. get_or (range_with_len 0 count) n 0) (own-parent count number (subst (λ n. number < n) (length-range_with_len 0 count) bound));
  end = λ number bound fixed. fixed;
}
