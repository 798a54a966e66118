-- The first change of each number is found by going back.
use Rattle.std.proofs.Common.{◌≡◌, ◌≤◌, ◌<◌, ◌+◌, ◌==◌, inl, inr, ℕ, suc, Bool, true, false, List, length, get_or, set, drop, refl, sym, ◌∙◌, ap, arith, get_or-set_other, get_or-set_same, Some, slice_get, cond}
use Rattle.std.specs.Prelude.{find, replicate}
use Rattle.std.proofs.lemmas.Bool.{cases_eq}
use Rattle.std.proofs.lemmas.Bool.Decides.{Decides-eqb}
use Rattle.std.proofs.lemmas.List.{drop_all, drop_more, get_or-replicate, length-replicate, length-set}
use Rattle.std.proofs.lemmas.Option.{slice_get-get_or, slice_get_past}
use Rattle.redl_edits.specs.Formats.{is_of}
use Rattle.redl_edits.specs.Inside.Said.{IsFound}
use Rattle.redl_edits.specs.declared.formats.Format.{Format}
use Rattle.redl_edits.specs.declared.said.Said.{Said}

different : (a b : ℕ) → (a ≡ b → ⊥) → (a == b) ≡ false
different a b differs = at (a == b) refl
  where
    at : (r : Bool) → (a == b) ≡ r → r ≡ false
    at false same = refl
    at true same = absurd (differs ((Decides-eqb a b).0 same))

module _ (formats : List Format) where
  -- of the changes from a place on the first one of each number is known
  pub record Finding (places : List ℕ) (count left : ℕ) : Type 0 where
    pub size : length places ≡ count
    pub few : left ≤ length formats
    pub found : (v : ℕ) → v < count → slice_get formats (get_or places v 0) ≡ find (is_of v) (drop left formats)

  pub Finding-none : (places : List ℕ) (count : ℕ) → places ≡ replicate count (length formats) → Finding places count (length formats)
  Finding-none places count same = record {
    size = ap length same ∙ length-replicate count (length formats);
    few = omega arith;
    found = λ v bound.
        ap (λ (ps : List ℕ). slice_get formats (get_or ps v 0)) same
        ∙ ap (slice_get formats) (get_or-replicate count v (length formats) 0 bound)
        ∙ slice_get_past formats (length formats) (omega arith)
        ∙ sym (ap (find (is_of v)) (drop_all (length formats) formats (omega arith)));
  }

  module _ (places : List ℕ) (count left n : ℕ) (own : Format) (known : Finding places count left) (more : left ≡ suc n) where
    within : n < length formats
    within = let few : left ≤ length formats = known.few in omega (arith, few, more)

    next : n + 1 ≡ left
    next = omega (arith, more)

    opened : (v : ℕ) → find (is_of v) (drop n formats) ≡ cond ((get_or formats n own).revision == v) (Some (get_or formats n own)) (find (is_of v) (drop left formats))
    opened v =
        ap (find (is_of v)) (drop_more formats n own within)
        ∙ ap (λ m. cond ((get_or formats n own).revision == v) (Some (get_or formats n own)) (find (is_of v) (drop m formats))) next

    other : (v : ℕ) → ((get_or formats n own).revision ≡ v → ⊥) → find (is_of v) (drop n formats) ≡ find (is_of v) (drop left formats)
    other v differs = opened v ∙ ap (λ b. cond b (Some (get_or formats n own)) (find (is_of v) (drop left formats))) (different (get_or formats n own).revision v differs)

    mine : (v : ℕ) → (get_or formats n own).revision ≡ v → find (is_of v) (drop n formats) ≡ Some (get_or formats n own)
    mine v same = opened v ∙ ap (λ b. cond b (Some (get_or formats n own)) (find (is_of v) (drop left formats))) ((Decides-eqb (get_or formats n own).revision v).1 same)

    -- the change at the place has this number, and it is the first one now
    pub Finding-more : (get_or formats n own).revision < count → Finding (set places (get_or formats n own).revision n) count n
    Finding-more bound =
        let number = (get_or formats n own).revision in
        let inside : number < length places = omega (arith, bound, known.size) in
        record {
          size = length-set places number n ∙ known.size;
          few = omega (arith, within);
          found = λ v few. elim (cases_eq v number) [
            | inl here ↦
                ap (λ m. slice_get formats (get_or (set places number n) m 0)) here
                ∙ ap (slice_get formats) (get_or-set_same places number n 0 inside)
                ∙ slice_get-get_or formats n own within ∙ sym (mine v (sym here))
            | inr differs ↦
                ap (slice_get formats) (get_or-set_other places number v n 0 differs)
                ∙ known.found v few ∙ sym (other v (λ e. differs (sym e)))
          ];
        }

    -- its number does not belong to these
    pub Finding-skip : count ≤ (get_or formats n own).revision → Finding places count n
    Finding-skip high = record {
      size = known.size;
      few = omega (arith, within);
      found = λ v few. known.found v few ∙ sym (other v (λ e. omega (arith, e, few, high)));
    }

pub Finding-all : (said : Said) (count left : ℕ) → Finding said.formats.items said.places.items count left → left ≡ 0 → IsFound said count
Finding-all said count left known over = record {
  size = known.size;
  found = λ v bound. known.found v bound ∙ ap (λ n. find (is_of v) (drop n said.formats.items)) over;
}
