-- The spans that are kept while going back from the last one.
use Rattle.std.proofs.Common.{◌≡◌, ◌≤◌, ◌<◌, ◌+◌, ◌-◌, inl, inr, ℕ, suc, List, [], ◌∷◌, ◌++◌, length, get_or, slice_get, take, drop, refl, sym, subst, ◌∙◌, ap, append_assoc, arith, Option, Some, None, add-one, length-append}
use Rattle.std.proofs.lemmas.Bool.{cases_lt}
use Rattle.std.proofs.lemmas.List.{append-nil, get_or-take, get_or_append_left, get_or-append_right, length-take-le, take-append-drop, length-drop, get_or-drop}
use Rattle.std.specs.Prelude.{find}
use Rattle.redl_classes.specs.declared.pair.Pair.{Pair}
use Rattle.redl_index.specs.declared.revision.Revision.{Revision}
use Rattle.redl_spans.specs.declared.span.Span.{Span}
use Rattle.redl_edits.specs.Enclosed.{enclosed_upto, is_round, or_else, pair_enclosed_if, round_if, round_upto}
use Rattle.redl_edits.specs.Inside.Ends.{AreInOrder}
use Rattle.redl_edits.specs.Inside.Rounds.{IsStack}
use Rattle.redl_edits.proofs.BesideLaws.{none}
use Rattle.redl_edits.proofs.RoundLaws.{find-append, find-none, is_round-before, round_upto-more}

or_else-nothing : (one : Option Span) → or_else one None ≡ one
or_else-nothing None = refl
or_else-nothing (Some x) = refl

or_else-assoc : (one two three : Option Span) → or_else one (or_else two three) ≡ or_else (or_else one two) three
or_else-assoc None two three = refl
or_else-assoc (Some x) two three = refl

-- so many places are left, and for each end that is not behind one of the spans from there on what is kept is known
pub record Stacks (revisions : List Revision) (spans later : List Span) (left : ℕ) : Type 0 where
  pub few : left ≤ length spans
  pub stack : (end : ℕ) → ((k : ℕ) → left ≤ k → k < length spans → end ≤ (get_or spans k none).to) → IsStack revisions spans later left end

module _ (revisions : List Revision) (spans : List Span) where
  pub Stacks-none : Stacks revisions spans [] (length spans)
  Stacks-none = record {
    few = omega arith;
    stack = λ end above. record {
      ends = λ k d bound. absurd (omega (arith, bound));
      found = λ change unit below. refl;
    };
  }

  module _ (later : List Span) (left n count : ℕ) (known : Stacks revisions spans later left) (more : left ≡ suc n) (order : AreInOrder spans) (fits : count ≤ length later)
      (past : (k : ℕ) (d : Span) → count ≤ k → k < length later → (get_or spans n none).to ≤ (get_or later k d).from) where
    within : n < length spans
    within = let few : left ≤ length spans = known.few in omega (arith, few, more)

    -- what is dropped begins behind the span at the place
    dropped : (change : Span) (unit : ℕ) → unit < (get_or spans n none).to → find (is_round revisions change unit) (drop count later) ≡ None
    dropped change unit below = find-none (is_round revisions change unit) (drop count later) (λ k bound.
        let size : length (drop count later) ≡ length later - count = length-drop count later in
        let place : count ≤ count + k = omega arith in
        let bound' : count + k < length later = omega (arith, bound, size, fits) in
        let begins : (get_or spans n none).to ≤ (get_or later (count + k) none).from = past (count + k) none place bound' in
        ap (is_round revisions change unit) (get_or-drop count later k none)
        ∙ is_round-before revisions change unit (get_or later (count + k) none) (omega (arith, below, begins)))

    kept-same : (change : Span) (unit : ℕ) → unit < (get_or spans n none).to → find (is_round revisions change unit) (take count later) ≡ find (is_round revisions change unit) later
    kept-same change unit below =
        sym (ap (find (is_round revisions change unit)) (sym (take-append-drop count later))
        ∙ find-append (is_round revisions change unit) (take count later) (drop count later)
        ∙ ap (or_else (find (is_round revisions change unit) (take count later))) (dropped change unit below)
        ∙ or_else-nothing (find (is_round revisions change unit) (take count later)))

    -- what is kept, as it is when the span at the place is looked at
    pub kept-stack : (end : ℕ) → end ≤ (get_or spans n none).to → IsStack revisions spans (take count later) (n + 1) end
    kept-stack end low =
        let before : IsStack revisions spans later left end = known.stack end (λ k from bound.
        let order' : (get_or spans n none).to ≤ (get_or spans k none).to = order n k none (omega (arith, from, more)) bound in omega (arith, low, order')) in
        record {
          ends = λ k d bound.
              let size : length (take count later) ≡ count = length-take-le count later fits in
              let inside : k < count = omega (arith, bound, size) in
              subst (λ (span : Span). end ≤ span.to) (sym (get_or-take count later k d inside)) (before.ends k d (omega (arith, inside, fits)));
          found = λ change unit below.
              before.found change unit below
              ∙ ap (λ one. or_else one (round_upto revisions spans change unit left)) (sym (kept-same change unit (omega (arith, below, low))))
              ∙ ap (λ m. or_else (find (is_round revisions change unit) (take count later)) (round_upto revisions spans change unit m)) (more ∙ sym (add-one n));
        }

    -- with that span
    pub Stacks-more : Stacks revisions spans (take count later ++ get_or spans n none ∷ []) n
    Stacks-more = record {
      few = omega (arith, within);
      stack = λ end above.
          let low : end ≤ (get_or spans n none).to = above n (omega arith) within in
          let kept : IsStack revisions spans (take count later) (n + 1) end = kept-stack end low in
          record {
            ends = λ k d bound. elim (cases_lt k (length (take count later))) [
              | inl first ↦ subst (λ (span : Span). end ≤ span.to) (sym (get_or_append_left (take count later) (get_or spans n none ∷ []) d k first)) (kept.ends k d first)
              | inr last ↦
                  let size : length (take count later ++ get_or spans n none ∷ []) ≡ length (take count later) + 1 = length-append (take count later) (get_or spans n none ∷ []) in
                  let zero' : k - length (take count later) ≡ 0 = omega (arith, bound, size, last) in
                  subst (λ (span : Span). end ≤ span.to)
                  (sym (get_or-append_right (take count later) (get_or spans n none ∷ []) (length (take count later)) k d refl last
                  ∙ ap (λ m. get_or (get_or spans n none ∷ []) m d) zero')) low
            ];
            found = λ change unit below.
                kept.found change unit below
                ∙ ap (λ m. or_else (find (is_round revisions change unit) (take count later)) (round_upto revisions spans change unit m)) (add-one n)
                ∙ ap (or_else (find (is_round revisions change unit) (take count later))) (round_upto-more revisions change spans unit n within)
                ∙ or_else-assoc (find (is_round revisions change unit) (take count later)) (round_if revisions change unit (Some (get_or spans n none))) (round_upto revisions spans change unit n)
                ∙ ap (λ one. or_else one (round_upto revisions spans change unit n))
                (sym (find-append (is_round revisions change unit) (take count later) (get_or spans n none ∷ [])));
          };
    }

-- ---- pairs

-- what is found, and what is found of so many first spans, are all pairs
pub record Finds (revisions : List Revision) (spans : List Span) (before found : List Pair) (left : ℕ) : Type 0 where
  pub pairs : found ++ enclosed_upto revisions spans left ≡ before ++ enclosed_upto revisions spans (length spans)

pub Finds-more : (revisions : List Revision) (spans : List Span) (before found made : List Pair) (left n : ℕ) → Finds revisions spans before found left → left ≡ suc n
    → made ≡ found ++ pair_enclosed_if revisions spans (slice_get spans n) → Finds revisions spans before made n
Finds-more revisions spans before found made left n known more found_more =
    let known' : Finds revisions spans before found (suc n) = subst (Finds revisions spans before found) more known in
    record {
      pairs = ap (λ pairs. pairs ++ enclosed_upto revisions spans n) found_more
          ∙ append_assoc found (pair_enclosed_if revisions spans (slice_get spans n)) (enclosed_upto revisions spans n) ∙ known'.pairs;
    }

pub Finds-all : (revisions : List Revision) (spans : List Span) (before found : List Pair) (left : ℕ) → Finds revisions spans before found left → left ≡ 0
    → found ≡ before ++ enclosed_upto revisions spans (length spans)
Finds-all revisions spans before found left known over =
    sym (append-nil found) ∙ ap (λ n. found ++ enclosed_upto revisions spans n) (sym over) ∙ known.pairs
