-- Pairs of spans that touch are found by going back from each span.
use Rattle.std.proofs.Common.{◌≡◌, ◌≤◌, ◌<◌, ℕ, zero, suc, List, [], ◌++◌, length, get_or, slice_get, refl, sym, subst, ◌∙◌, ap, append_assoc, arith, Some}
use Rattle.std.proofs.lemmas.Bool.{lt-leb}
use Rattle.std.proofs.lemmas.List.{append-nil}
use Rattle.std.proofs.lemmas.Option.{slice_get-get_or}
use Rattle.redl_classes.specs.declared.pair.Pair.{Pair}
use Rattle.redl_index.specs.declared.revision.Revision.{Revision}
use Rattle.redl_spans.specs.declared.span.Span.{Span}
use Rattle.redl_edits.specs.Beside.{pair_beside, pairs_at, pairs_before}
use Rattle.redl_edits.specs.Inside.Ends.{AreInOrder}

-- what is found, and what is found from so many spans on down, are all pairs of a span
pub record Leaves (revisions : List Revision) (spans : List Span) (one : Span) (place : ℕ) (before found : List Pair) (left : ℕ) : Type 0 where
  pub bound : left ≤ place
  pub pairs : found ++ pairs_before revisions spans one left ≡ before ++ pairs_before revisions spans one place

abbrev pub none : Span
none = record { revision = 0; from = 0; to = 0 }

-- what ends before the span begins doesn't touch it
pub pair_beside-past : (revisions : List Revision) (one two : Span) → two.to < one.from → pair_beside revisions one (Some two) ≡ []
pair_beside-past revisions one two past = rw (lt-leb one.from two.to past) refl

pub pairs_before-past : (revisions : List Revision) (spans : List Span) (one : Span) → AreInOrder spans → (last : ℕ) → last < length spans
    → (get_or spans last none).to < one.from → (n : ℕ) → n ≤ suc last → pairs_before revisions spans one n ≡ []
pairs_before-past revisions spans one order last within past zero few = refl
pairs_before-past revisions spans one order last within past (suc n) few =
    let low : n ≤ last = omega (arith, few) in
    let bound : n < length spans = omega (arith, low, within) in
    let ends : (get_or spans n none).to ≤ (get_or spans last none).to = order n last none low within in
    let past' : (get_or spans n none).to < one.from = omega (arith, ends, past) in
    let rest : n ≤ suc last = omega (arith, low) in
    rw (slice_get-get_or spans n none bound)
    (rw (pair_beside-past revisions one (get_or spans n none) past')
    (pairs_before-past revisions spans one order last within past n rest))

module _ (revisions : List Revision) (spans : List Span) (one : Span) (place : ℕ) (before found : List Pair) where
  -- after one span more
  pub Leaves-more : (made : List Pair) (left n : ℕ) → Leaves revisions spans one place before found left → left ≡ suc n → n < length spans
      → made ≡ found ++ pair_beside revisions one (Some (get_or spans n none)) → Leaves revisions spans one place before made n
  Leaves-more made left n known more within found_more =
      let left' : Leaves revisions spans one place before found (suc n) = subst (Leaves revisions spans one place before found) more known in
      let low : suc n ≤ place = left'.bound in
      record {
        bound = omega (arith, low);
        pairs = ap (λ pairs. pairs ++ pairs_before revisions spans one n) found_more
            ∙ append_assoc found (pair_beside revisions one (Some (get_or spans n none))) (pairs_before revisions spans one n)
            ∙ ap (λ two. found ++ (pair_beside revisions one two ++ pairs_before revisions spans one n)) (sym (slice_get-get_or spans n none within))
            ∙ left'.pairs;
      }

  -- where none is left
  pub Leaves-all : (left : ℕ) → Leaves revisions spans one place before found left → pairs_before revisions spans one left ≡ []
      → slice_get spans place ≡ Some one → found ≡ before ++ pairs_at revisions spans place (slice_get spans place)
  Leaves-all left known nothing here =
      sym (append-nil found) ∙ ap (λ pairs. found ++ pairs) (sym nothing) ∙ known.pairs
      ∙ ap (λ span. before ++ pairs_at revisions spans place span) (sym here)
