-- How far what an author did reaches, while going back from the last span.
use Rattle.std.proofs.Common.{◌≡◌, ◌≤◌, ◌<◌, ◌+◌, ◌-◌, ◌&&◌, ◌||◌, inl, inr, ℕ, zero, suc, Bool, true, false, List, [], ◌∷◌, length, get_or, min, not, refl, sym, subst, ◌∙◌, ap, arith}
use Rattle.std.proofs.Math.Nat.{min-le_left, min-le_right}
use Rattle.std.proofs.lemmas.Bool.{cases_lt, le-leb, lt-leb}
use Rattle.std.proofs.lemmas.List.{get_or_default}
use Rattle.std.specs.Prelude.{nat_le, nat_lt}
use Rattle.std.specs.List.{list_any}
use Rattle.redl_spans.specs.declared.span.Span.{Span}
use Rattle.redl_edits.specs.Facts.{Facts}
use Rattle.redl_edits.specs.Formatted.{is_blank, is_by_author, keeps_apart, reaches}
use Rattle.redl_edits.specs.Inside.Ends.{AreInOrder}
use Rattle.redl_edits.specs.Inside.Reaches.{IsDark, Reach, is_same, seen_with}
use Rattle.redl_edits.specs.declared.seen.Seen.{Seen}
use Rattle.redl_edits.proofs.BesideLaws.{none}

-- ---- some of a list

pub list_any-none : (p : Span → Bool) (xs : List Span) → ((k : ℕ) → k < length xs → p (get_or xs k none) ≡ false) → list_any p xs ≡ false
list_any-none p [] misses = refl
list_any-none p (x ∷ xs) misses = rw (misses 0 (omega arith)) (list_any-none p xs (λ k bound. misses (suc k) (omega (arith, bound))))

pub list_any-some : (p : Span → Bool) (xs : List Span) (k : ℕ) → k < length xs → p (get_or xs k none) ≡ true → list_any p xs ≡ true
list_any-some p [] k bound hit = absurd (omega (arith, bound))
list_any-some p (x ∷ xs) zero bound hit = rw hit refl
list_any-some p (x ∷ xs) (suc k) bound hit =
    rw (list_any-some p xs k (omega (arith, bound)) hit) (elim (p x) as (λ b. b || true ≡ true) [ true ↦ refl | false ↦ refl ])

-- ---- one author

module _ (facts : Facts) (one : Span) where
  by-before : (unit : ℕ) (span : Span) → unit < span.from → is_by_author facts one unit span ≡ false
  by-before unit span before = rw (lt-leb span.from unit before) refl

  pub by-past : (unit : ℕ) (span : Span) → span.to ≤ unit → is_by_author facts one unit span ≡ false
  by-past unit span past =
      rw (lt-leb (suc unit) span.to (omega (arith, past)))
      (elim (nat_le span.from unit) as (λ b. (b && false) && is_same facts one span ≡ false) [ true ↦ refl | false ↦ refl ])

  by-other : (unit : ℕ) (span : Span) → is_same facts one span ≡ false → is_by_author facts one unit span ≡ false
  by-other unit span other =
      rw other (elim (nat_le span.from unit && nat_lt unit span.to) as (λ b. b && false ≡ false) [ true ↦ refl | false ↦ refl ])

  pub by-here : (unit : ℕ) (span : Span) → span.from ≤ unit → unit < span.to → is_same facts one span ≡ true → is_by_author facts one unit span ≡ true
  by-here unit span from to same =
      rw (le-leb span.from unit from) (rw (le-leb (suc unit) span.to (omega (arith, to))) (rw same refl))

  -- a unit keeps the author's changes apart, or it doesn't
  pub apart-is : (unit : ℕ) → is_blank facts unit ≡ false → list_any (is_by_author facts one unit) facts.spans ≡ false → keeps_apart facts one unit ≡ true
  apart-is unit dark free = rw dark (rw free refl)

  pub apart-blank : (unit : ℕ) → is_blank facts unit ≡ true → keeps_apart facts one unit ≡ false
  apart-blank unit blank = rw blank refl

  pub apart-held : (unit : ℕ) → list_any (is_by_author facts one unit) facts.spans ≡ true → keeps_apart facts one unit ≡ false
  apart-held unit held = rw held (elim (is_blank facts unit) as (λ b. not b && false ≡ false) [ true ↦ refl | false ↦ refl ])

-- a span by another author changes nothing
pub Reach-other : (facts : Facts) (one : Span) (n : ℕ) (seen : Seen) → Reach facts one (suc n) seen → is_same facts one (get_or facts.spans n none) ≡ false
    → n < length facts.spans → Reach facts one n seen
Reach-other facts one n seen known other within = record {
  above = λ k d from bound same. elim (cases_lt n k) [
    | inl later ↦ known.above k d (omega (arith, later)) bound same
    | inr here ↦
        let is_n : k ≡ n = omega (arith, from, here) in
        absurd (let wrong : false ≡ true = sym other ∙ ap (is_same facts one) (get_or_default facts.spans n none d within)
        ∙ ap (λ m. is_same facts one (get_or facts.spans m d)) (sym is_n) ∙ same in cc)
  ];
  before = λ k d less bound. known.before k d (omega (arith, less)) bound;
  held = known.held;
  bound = known.bound;
  clear = known.clear;
  next = known.next;
}

module _ (facts : Facts) (one : Span) (n dark : ℕ) (seen : Seen) (known : Reach facts one (suc n) seen) (order : AreInOrder facts.spans) (within : n < length facts.spans)
    (same : is_same facts one (get_or facts.spans n none) ≡ true) (is_dark : IsDark facts.passed (get_or facts.spans n none).to dark) where
  abbrev own : Span
  own = get_or facts.spans n none

  ends : own.to ≤ seen.at
  ends = known.before n none (omega arith) within

  -- no span by the author holds a unit between the end of this one and the low
  free : (unit : ℕ) → own.to ≤ unit → unit < seen.low → list_any (is_by_author facts one unit) facts.spans ≡ false
  free unit past below = list_any-none (is_by_author facts one unit) facts.spans (λ k bound. elim (cases_lt n k) [
    | inl later ↦ by_author k bound (omega (arith, later)) (is_same facts one (get_or facts.spans k none)) refl
    | inr before ↦
        let order' : (get_or facts.spans k none).to ≤ own.to = order k n none before within in
        by-past facts one unit (get_or facts.spans k none) (omega (arith, order', past))
  ])
    where
      by_author : (k : ℕ) → k < length facts.spans → suc n ≤ k → (b : Bool) → is_same facts one (get_or facts.spans k none) ≡ b → is_by_author facts one unit (get_or facts.spans k none) ≡ false
      by_author k bound later true e =
          let begins : seen.low ≤ (get_or facts.spans k none).from = known.above k none later bound e in
          by-before facts one unit (get_or facts.spans k none) (omega (arith, begins, below))
      by_author k bound later false e = by-other facts one unit (get_or facts.spans k none) e

  above' : (k : ℕ) (d : Span) → n ≤ k → k < length facts.spans → is_same facts one (get_or facts.spans k d) ≡ true → min seen.low own.from ≤ (get_or facts.spans k d).from
  above' k d from bound by = elim (cases_lt n k) [
    | inl later ↦
        let begins : seen.low ≤ (get_or facts.spans k d).from = known.above k d (omega (arith, later)) bound by in
        let least : min seen.low own.from ≤ seen.low = min-le_left seen.low own.from in omega (arith, begins, least)
    | inr here ↦
        let is_n : k ≡ n = omega (arith, from, here) in
        let least : min seen.low own.from ≤ own.from = min-le_right seen.low own.from in
        let own_is : own ≡ get_or facts.spans k d = get_or_default facts.spans n none d within ∙ ap (λ m. get_or facts.spans m d) (sym is_n) in
        subst (λ (span : Span). min seen.low own.from ≤ span.from) own_is least
  ]

  before' : (k : ℕ) (d : Span) → k < n → k < length facts.spans → (get_or facts.spans k d).to ≤ own.to
  before' k d less bound =
      subst (λ (span : Span). (get_or facts.spans k d).to ≤ span.to) (get_or_default facts.spans n d none within) (order k n d (omega (arith, less)) within)

  held' : (unit : ℕ) → min seen.low own.from ≤ unit → unit < own.to → list_any (is_by_author facts one unit) facts.spans ≡ true
  held' unit from to = elim (cases_lt unit own.from) [
    | inl early ↦ known.held unit (omega (arith, from, early)) (omega (arith, to, ends))
    | inr inside ↦ list_any-some (is_by_author facts one unit) facts.spans n within (by-here facts one unit own inside to same)
  ]

  -- with a unit that keeps apart before what was held so far
  Reach-nearer : dark < seen.low → dark < seen.at → Reach facts one n (record { low = min seen.low own.from; at = own.to; apart = dark })
  Reach-nearer below before = record {
    above = above';
    before = before';
    held = held';
    bound = is_dark.bound;
    clear = λ unit from to. apart-blank facts one unit (is_dark.blank unit from to);
    next = apart-is facts one dark is_dark.here (free dark is_dark.bound below);
  }

  -- without one
  Reach-same : (dark < seen.low → dark < seen.at → ⊥) → Reach facts one n (record { low = min seen.low own.from; at = own.to; apart = seen.apart })
  Reach-same never = record {
    above = above';
    before = before';
    held = held';
    bound = (let was : seen.at ≤ seen.apart = known.bound in omega (arith, was, ends));
    clear = λ unit from to. elim (cases_lt unit seen.at) [
      | inl early ↦ (elim (cases_lt unit seen.low) [
        | inl below ↦ (elim (cases_lt unit dark) [
          | inl blank ↦ apart-blank facts one unit (is_dark.blank unit from blank)
          | inr past ↦ absurd (never (omega (arith, past, below)) (omega (arith, past, early)))
        ])
        | inr inside ↦ apart-held facts one unit (known.held unit inside early)
      ])
      | inr late ↦ known.clear unit late to
    ];
    next = known.next;
  }

  pub Reach-with : Reach facts one n (seen_with seen own dark)
  Reach-with = elim (cases_lt dark seen.low) [
    | inl below ↦ (elim (cases_lt dark seen.at) [
      | inl before ↦ rw (le-leb (suc dark) seen.low (omega (arith, below))) (rw (le-leb (suc dark) seen.at (omega (arith, before))) (Reach-nearer below before))
      | inr past ↦ rw (le-leb (suc dark) seen.low (omega (arith, below))) (rw (lt-leb (suc dark) seen.at (omega (arith, past))) (Reach-same (λ b t. omega (arith, past, t))))
    ])
    | inr high ↦ rw (lt-leb (suc dark) seen.low (omega (arith, high))) (Reach-same (λ b t. omega (arith, high, b)))
  ]

-- ---- what a change reaches

module _ (facts : Facts) (one : Span) (left : ℕ) (seen : Seen) (known : Reach facts one left seen) (here : seen.at ≡ one.to) where
  reaches-all : (n : ℕ) → one.to + n ≤ seen.apart → reaches facts one one.to n ≡ true
  reaches-all zero few = refl
  reaches-all (suc n) few =
      rw (reaches-all n (omega (arith, few))) (rw (known.clear (one.to + n) (omega (arith, here)) (omega (arith, few))) refl)

  reaches-not : (n : ℕ) → seen.apart < one.to + n → reaches facts one one.to n ≡ false
  reaches-not zero past = (let was : seen.at ≤ seen.apart = known.bound in absurd (omega (arith, was, past, here)))
  reaches-not (suc n) past = elim (cases_lt seen.apart (one.to + n)) [
    | inl before ↦ rw (reaches-not n before) refl
    | inr last ↦
        let unit : one.to + n ≡ seen.apart = omega (arith, past, last) in
        rw (subst (λ unit. keeps_apart facts one unit ≡ true) (sym unit) known.next)
        (elim (reaches facts one one.to n) as (λ b. b && false ≡ false) [ true ↦ refl | false ↦ refl ])
  ]

  pub reaches-is : (two : Span) → reaches facts one one.to (two.from - one.to) ≡ nat_le two.from seen.apart
  reaches-is two = elim (cases_lt seen.apart two.from) [
    | inl past ↦ (let was : seen.at ≤ seen.apart = known.bound in reaches-not (two.from - one.to) (omega (arith, past, was, here)) ∙ sym (lt-leb two.from seen.apart past))
    | inr few ↦ (let was : seen.at ≤ seen.apart = known.bound in reaches-all (two.from - one.to) (omega (arith, few, was, here)) ∙ sym (le-leb two.from seen.apart few))
  ]
