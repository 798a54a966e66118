-- Which changes are loose is found by going back.
use Rattle.std.proofs.Common.{◌≡◌, ◌≤◌, ◌<◌, ◌+◌, ◌-◌, ◌&&◌, inl, inr, ℕ, zero, suc, Bool, true, false, List, length, get_or, set, refl, sym, ◌∙◌, ap, arith, get_or-set_other, get_or-set_same, add-zero, Option, None, is_some, not}
use Rattle.std.specs.Prelude.{if◌then◌else◌, nat_lt}
use Rattle.std.proofs.lemmas.Bool.{cases_eq, cases_lt, lt-leb}
use Rattle.std.proofs.lemmas.List.{get_or_default, length-set}
use Rattle.redl_index.specs.declared.revision.Revision.{Revision}
use Rattle.redl_spans.specs.declared.span.Span.{Span}
use Rattle.redl_edits.specs.Alike.{is_change_at}
use Rattle.redl_edits.specs.Enclosed.{are_held, is_enclosed, outermost}
use Rattle.redl_edits.specs.Formatted.{is_loose}
use Rattle.redl_edits.specs.Inside.Loose.{AreLoose}
use Rattle.redl_edits.specs.Inside.Rounds.{sought}
use Rattle.redl_edits.proofs.BesideLaws.{none}
use Rattle.redl_edits.proofs.BoundLaws.{first-true, last-true}

less-from : (a b : ℕ) → nat_lt a b ≡ true → a < b
less-from a b e = elim (cases_lt a b) [
  | inl less ↦ less
  | inr high ↦ absurd (let wrong : false ≡ true = sym (lt-leb (suc a) b (omega (arith, high))) ∙ e in let no : ⊥ = cc in no)
]

module _ (revisions : List Revision) (spans : List Span) where
  -- so many are left, and of the others it is known
  pub record Loosens (loose : List Bool) (left : ℕ) : Type 0 where
    pub size : length loose ≡ length spans
    pub few : left ≤ length spans
    pub found : (k : ℕ) (d : Span) → left ≤ k → k < length spans → get_or loose k false ≡ is_loose revisions spans (get_or spans k d)

  pub Loosens-more : (loose : List Bool) (left n : ℕ) (own : Bool) → Loosens loose left → left ≡ suc n → own ≡ is_loose revisions spans (get_or spans n none)
      → Loosens (set loose n own) n
  Loosens-more loose left n own known more own-is =
      let few : left ≤ length spans = known.few in
      let within : n < length spans = omega (arith, few, more) in
      let within' : n < length loose = omega (arith, within, known.size) in
      record {
        size = length-set loose n own ∙ known.size;
        few = omega (arith, within);
        found = λ k d from bound. elim (cases_eq k n) [
          | inl here ↦ rw here
              (get_or-set_same loose n own false within' ∙ own-is ∙ ap (is_loose revisions spans) (get_or_default spans n none d within))
          | inr other ↦ get_or-set_other loose n k own false other ∙ known.found k d (omega (arith, from, other, more)) bound
        ];
      }

  pub Loosens-all : (loose : List Bool) (left : ℕ) → Loosens loose left → left ≡ 0 → AreLoose revisions spans loose
  Loosens-all loose left known over = record { size = known.size; each = λ k d bound. known.found k d (omega (arith, over)) bound }

  -- ---- one span

  held-first : (change : Span) (n : ℕ) → are_held revisions spans change (suc n) ≡ true → is_some (outermost revisions spans change (change.from + 0)) ≡ true
  held-first change zero held = last-true (are_held revisions spans change 0) (is_some (outermost revisions spans change (change.from + 0))) held
  held-first change (suc n) held =
      held-first change n (first-true (are_held revisions spans change (suc n)) (is_some (outermost revisions spans change (change.from + suc n))) held)

  -- an inside change has an outermost one round its first unit
  enclosed-has : (change : Span) → is_enclosed revisions spans change ≡ true → is_some (outermost revisions spans change change.from) ≡ true
  enclosed-has change enclosed = from (change.to - change.from) refl
    where
      begins : nat_lt change.from change.to ≡ true
      begins = first-true (nat_lt change.from change.to) (are_held revisions spans change (change.to - change.from)) enclosed

      from : (n : ℕ) → change.to - change.from ≡ n → is_some (outermost revisions spans change change.from) ≡ true
      from zero e = absurd (omega (arith, e, less-from change.from change.to begins))
      from (suc n) e =
          let held : are_held revisions spans change (change.to - change.from) ≡ true = last-true (nat_lt change.from change.to) (are_held revisions spans change (change.to - change.from)) enclosed in
          let first : is_some (outermost revisions spans change (change.from + 0)) ≡ true = held-first change n (ap (are_held revisions spans change) (sym e) ∙ held) in
          ap (λ unit. is_some (outermost revisions spans change unit)) (sym (add-zero change.from)) ∙ first

  sought-some : (change : Span) (b : Bool) → is_enclosed revisions spans change ≡ b → is_some (if b then outermost revisions spans change change.from else None) ≡ b
  sought-some change true e = enclosed-has change e
  sought-some change false e = refl

  pub sought-enclosed : (change : Span) → is_some (sought revisions spans change) ≡ is_enclosed revisions spans change
  sought-enclosed change = sought-some change (is_enclosed revisions spans change) refl

  -- whether a change is loose is seen by whether it has an outermost one
  pub loose-is : (change : Span) (outer : Option Span) → is_change_at revisions change.revision ≡ true → outer ≡ sought revisions spans change
      → not (is_some outer) ≡ is_loose revisions spans change
  loose-is change outer is same =
      ap (λ (one : Option Span). not (is_some one)) same ∙ ap not (sought-enclosed change)
      ∙ sym (ap (λ b. b && not (b && is_enclosed revisions spans change)) is)

  pub loose-not : (change : Span) → is_change_at revisions change.revision ≡ false → is_loose revisions spans change ≡ false
  loose-not change other = ap (λ b. b && not (b && is_enclosed revisions spans change)) other
