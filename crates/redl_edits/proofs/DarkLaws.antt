-- The next units that aren't blank are found by going back.
use Rattle.std.proofs.Common.{◌≡◌, ◌≤◌, ◌<◌, inl, inr, ℕ, suc, true, false, List, length, get_or, set, refl, subst, ◌∙◌, arith, get_or-set_other, get_or-set_same}
use Rattle.std.proofs.lemmas.Bool.{cases_eq}
use Rattle.std.proofs.lemmas.List.{get_or_default, get_or_past, length-set}
use Rattle.redl_grammar.specs.Characters.{is_space}
use Rattle.redl_spans.specs.declared.span.Span.{Span}
use Rattle.redl_edits.specs.Inside.Ends.{AreInOrder}
use Rattle.redl_edits.specs.Inside.Reaches.{IsDark}
use Rattle.redl_edits.proofs.BesideLaws.{none}

-- ---- one unit before

pub IsDark-here : (passed : List ℕ) (unit from dark : ℕ) → from ≡ suc unit → IsDark passed from dark → is_space (get_or passed unit 0) ≡ false → IsDark passed unit unit
IsDark-here passed unit from dark more known dark_here = record {
  bound = omega arith;
  blank = λ k low high. absurd (omega (arith, low, high));
  here = dark_here;
}

pub IsDark-blank : (passed : List ℕ) (unit from dark : ℕ) → from ≡ suc unit → IsDark passed from dark → is_space (get_or passed unit 0) ≡ true → IsDark passed unit dark
IsDark-blank passed unit from dark more known blank = record {
  bound = (let was : from ≤ dark = known.bound in omega (arith, was, more));
  blank = λ k low high. elim (cases_eq k unit) [
    | inl here ↦ rw here blank
    | inr other ↦ known.blank k (omega (arith, low, other, more)) high
  ];
  here = known.here;
}

-- behind all bytes
pub IsDark-past : (passed : List ℕ) (end : ℕ) → length passed ≤ end → IsDark passed end end
unfolding is_space
IsDark-past passed end past = record {
  bound = omega arith;
  blank = λ k low high. absurd (omega (arith, low, high));
  here = rw (get_or_past passed end 0 past) refl;
}

-- ---- one span after the other

-- so many are left, and the others have theirs
pub record Darkens (passed : List ℕ) (spans : List Span) (dark : List ℕ) (left at next : ℕ) : Type 0 where
  pub size : length dark ≡ length spans
  pub few : left ≤ length spans
  pub before : (k : ℕ) (d : Span) → k < left → k < length spans → (get_or spans k d).to ≤ at
  pub now : IsDark passed at next
  pub found : (k : ℕ) (d : Span) → left ≤ k → k < length spans → IsDark passed (get_or spans k d).to (get_or dark k 0)

pub Darkens-more : (passed : List ℕ) (spans : List Span) (dark : List ℕ) (left n at next next' : ℕ) → Darkens passed spans dark left at next → left ≡ suc n → AreInOrder spans
    → IsDark passed (get_or spans n none).to next' → Darkens passed spans (set dark n next') n (get_or spans n none).to next'
Darkens-more passed spans dark left n at next next' known more order is_dark =
    let few : left ≤ length spans = known.few in
    let within : n < length spans = omega (arith, few, more) in
    let within' : n < length dark = omega (arith, within, known.size) in
    record {
      size = length-set dark n next' ∙ known.size;
      few = omega (arith, within);
      before = λ k d less bound.
          subst (λ (span : Span). (get_or spans k d).to ≤ span.to) (get_or_default spans n d none within) (order k n d (omega (arith, less)) within);
      now = is_dark;
      found = λ k d from bound. elim (cases_eq k n) [
        | inl here ↦ rw here
            (rw (get_or-set_same dark n next' 0 within')
            (subst (λ (span : Span). IsDark passed span.to next') (get_or_default spans n none d within) is_dark))
        | inr other ↦ rw (get_or-set_other dark n k next' 0 other) (known.found k d (omega (arith, from, other, more)) bound)
      ];
    }
