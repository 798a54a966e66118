-- The next change of the same format.
use Rattle.std.proofs.Common.{◌≡◌, ◌≤◌, ◌<◌, ◌+◌, ◌-◌, ◌&&◌, inl, inr, ℕ, suc, Bool, true, false, List, [], ◌∷◌, ◌++◌, length, get_or, drop, refl, sym, subst, ◌∙◌, ap, arith, append_assoc, Option, Some, None, slice_get, cond, if◌then◌else◌, length-drop, bytes_eq}
use Rattle.std.specs.Prelude.{find, nat_le}
use Rattle.std.proofs.lemmas.Bool.{cases_lt, lt-leb}
use Rattle.std.proofs.lemmas.List.{append-nil, drop_more, get_or-drop}
use Rattle.std.proofs.lemmas.Option.{slice_get-get_or}
use Rattle.std.proofs.lemmas.Slice.Eq.{bytes_eq-Decides}
use Rattle.redl_classes.specs.declared.pair.Pair.{Pair}
use Rattle.redl_index.specs.declared.revision.Revision.{Revision}
use Rattle.redl_kinds.specs.Kinds.{is_same_kind}
use Rattle.redl_spans.specs.declared.span.Span.{Span}
use Rattle.redl_edits.specs.Alike.{are_alike_at, revision_at}
use Rattle.redl_edits.specs.Beside.{pair_of}
use Rattle.redl_edits.specs.Facts.{Facts}
use Rattle.redl_edits.specs.Formats.{said_of}
use Rattle.redl_edits.specs.Formatted.{formatted_upto, is_by_author, is_loose, is_next, pair_behind, pair_formatted, reaches, same_author, same_author_and_kind, same_format, same_said}
use Rattle.redl_edits.specs.Inside.Ends.{AreInOrder}
use Rattle.redl_edits.specs.Inside.Known.{AreSeen, pair_near}
use Rattle.redl_edits.specs.Inside.Authors.{seen_of}
use Rattle.redl_edits.specs.Inside.Reaches.{IsDark, Reach, is_same, seen_with}
use Rattle.redl_edits.specs.declared.seen.Seen.{Seen}
use Rattle.redl_edits.specs.declared.seen_by.SeenBy.{SeenBy}
use Rattle.redl_edits.proofs.BesideLaws.{none}
use Rattle.redl_edits.proofs.BoundLaws.{first-true, last-true}
use Rattle.redl_edits.proofs.ReachLaws.{Reach-other, Reach-with, apart-held, apart-is, by-here, by-past, list_any-none, list_any-some, reaches-is}
use Rattle.redl_edits.proofs.DarkLaws.{IsDark-past}

-- ---- the first one behind a place

module _ (p : Span → Bool) (xs : List Span) (n : ℕ) (within : n < length xs) where
  pub find-past : p (get_or xs n none) ≡ false → find p (drop n xs) ≡ find p (drop (n + 1) xs)
  find-past miss = ap (find p) (drop_more xs n none within) ∙ ap (λ b. cond b (Some (get_or xs n none)) (find p (drop (n + 1) xs))) miss

  pub find-here : p (get_or xs n none) ≡ true → find p (drop n xs) ≡ Some (get_or xs n none)
  find-here hit = ap (find p) (drop_more xs n none within) ∙ ap (λ b. cond b (Some (get_or xs n none)) (find p (drop (n + 1) xs))) hit

-- ---- which pairs there are

same_author-true : (one two : Option Revision) → same_author_and_kind one two ≡ true → same_author one two ≡ true
same_author-true None two e = cc
same_author-true (Some one) None e = cc
same_author-true (Some one) (Some two) e = first-true (bytes_eq one.author two.author) (is_same_kind one.kind two.kind) e

module _ (facts : Facts) (one : Span) (place : ℕ) (seen : Seen) (known : Reach facts one place seen) (here : seen.at ≡ one.to) where
  near : (two : Span) (alike b : Bool) → reaches facts one one.to (two.from - one.to) ≡ b
      → (if alike && reaches facts one one.to (two.from - one.to) then pair_of one two ∷ [] else []) ≡ (if alike && b then pair_of one two ∷ [] else [])
  near two alike b e = ap (λ r. if alike && r then pair_of one two ∷ [] else []) e

  -- a change and the next one are a pair where the next one begins before what keeps them apart
  pub formatted-near : (two : Option Span) → pair_formatted facts one two ≡ pair_near facts.revisions one two seen.apart
  formatted-near None = refl
  formatted-near (Some two) = near two (are_alike_at facts.revisions one.revision two.revision) (nat_le two.from seen.apart) (reaches-is facts one place seen known here two)

  past-nothing : (two : Span) → seen.apart < two.from → pair_formatted facts one (Some two) ≡ []
  past-nothing two past =
      formatted-near (Some two)
      ∙ ap (λ b. if are_alike_at facts.revisions one.revision two.revision && b then pair_of one two ∷ [] else []) (lt-leb two.from seen.apart past)
      ∙ nothing (are_alike_at facts.revisions one.revision two.revision)
    where
      nothing : (b : Bool) → (if b && false then pair_of one two ∷ [] else []) ≡ []
      nothing true = refl
      nothing false = refl

  -- what ends behind it, and is by the author, begins behind it
  begins : (k : ℕ) → k < length facts.spans → seen.apart < (get_or facts.spans k none).to → is_same facts one (get_or facts.spans k none) ≡ true
      → seen.apart < (get_or facts.spans k none).from
  begins k bound past same = elim (cases_lt seen.apart (get_or facts.spans k none).from) [
    | inl behind ↦ behind
    | inr low ↦
        let held = list_any-some (is_by_author facts one seen.apart) facts.spans k bound (by-here facts one seen.apart (get_or facts.spans k none) low past same) in
        let wrong : false ≡ true = sym (apart-held facts one seen.apart held) ∙ known.next in absurd (let no : ⊥ = cc in no)
  ]

  first : (b : Bool) (x : Span) (xs : List Span) → (b ≡ true → pair_formatted facts one (Some x) ≡ []) → pair_formatted facts one (find (is_next facts one) xs) ≡ []
      → pair_formatted facts one (cond b (Some x) (find (is_next facts one) xs)) ≡ []
  first true x xs hit rest = hit refl
  first false x xs hit rest = rest

  nothing-found : (xs : List Span) → ((k : ℕ) → k < length xs → is_next facts one (get_or xs k none) ≡ true → pair_formatted facts one (Some (get_or xs k none)) ≡ [])
      → pair_formatted facts one (find (is_next facts one) xs) ≡ []
  nothing-found [] each = refl
  nothing-found (x ∷ xs) each = first (is_next facts one x) x xs (each 0 (omega arith)) (nothing-found xs (λ k bound. each (suc k) (omega (arith, bound))))

  -- from a span on that ends behind what keeps apart nothing is paired
  pub nothing-behind : AreInOrder facts.spans → (n : ℕ) → n < length facts.spans → seen.apart < (get_or facts.spans n none).to
      → pair_formatted facts one (find (is_next facts one) (drop n facts.spans)) ≡ []
  nothing-behind order n within past = nothing-found (drop n facts.spans) (λ k bound is_next'.
      let size : length (drop n facts.spans) ≡ length facts.spans - n = length-drop n facts.spans in
      let bound' : n + k < length facts.spans = omega (arith, bound, size, within) in
      let low : n ≤ n + k = omega arith in
      let ends : (get_or facts.spans n none).to ≤ (get_or facts.spans (n + k) none).to = order n (n + k) none low bound' in
      let at : get_or (drop n facts.spans) k none ≡ get_or facts.spans (n + k) none = get_or-drop n facts.spans k none in
      let hit : is_next facts one (get_or facts.spans (n + k) none) ≡ true = subst (λ (span : Span). is_next facts one span ≡ true) at is_next' in
      let two = get_or facts.spans (n + k) none in
      let same : is_same facts one two ≡ true = same_author-true (revision_at facts.revisions one.revision) (revision_at facts.revisions two.revision)
      (first-true _ (same_said (said_of facts.formats one.revision) (said_of facts.formats two.revision)) (last-true (is_loose facts.revisions facts.spans two) (same_format facts one two) hit)) in
      subst (λ (span : Span). pair_formatted facts one (Some span) ≡ []) (sym at) (past-nothing two (begins (n + k) bound' (omega (arith, past, ends)) same)))

-- ---- what is seen of authors

same_text : (a b : List ℕ) → bytes_eq a b ≡ true → bytes_eq b a ≡ true
same_text a b e = (bytes_eq-Decides b a).1 (sym ((bytes_eq-Decides a b).0 e))

other_text : (a b : List ℕ) → bytes_eq a b ≡ false → bytes_eq b a ≡ false
other_text a b e = at (bytes_eq b a) refl
  where
    at : (r : Bool) → bytes_eq b a ≡ r → r ≡ false
    at false same = refl
    at true same = (let back : bytes_eq a b ≡ true = same_text b a same in cc)

module _ (facts : Facts) (before after : SeenBy) (n dark : ℕ) (known : AreSeen facts before (suc n)) (order : AreInOrder facts.spans) (within : n < length facts.spans) where
  -- the span is of no revision
  pub AreSeen-none : revision_at facts.revisions (get_or facts.spans n none).revision ≡ None → AreSeen facts before n
  AreSeen-none nobody = record {
    each = λ one revision by. Reach-other facts one n (seen_of before revision.author) (known.each one revision by)
        (ap (same_author (revision_at facts.revisions one.revision)) nobody ∙ ap (λ r. same_author r None) by) within;
  }

  -- the span is of this revision
  module _ (own : Revision) (is_own : revision_at facts.revisions (get_or facts.spans n none).revision ≡ Some own)
      (is_dark : IsDark facts.passed (get_or facts.spans n none).to dark)
      (saw : (other : List ℕ) → seen_of after other ≡ (if bytes_eq own.author other then seen_with (seen_of before own.author) (get_or facts.spans n none) dark else seen_of before other)) where
    one-more : (one : Span) (revision : Revision) → revision_at facts.revisions one.revision ≡ Some revision → (b : Bool) → bytes_eq own.author revision.author ≡ b
        → Reach facts one n (if b then seen_with (seen_of before own.author) (get_or facts.spans n none) dark else seen_of before revision.author)
    one-more one revision by true e =
        let same : is_same facts one (get_or facts.spans n none) ≡ true =
        ap (same_author (revision_at facts.revisions one.revision)) is_own ∙ ap (λ r. same_author r (Some own)) by ∙ same_text own.author revision.author e in
        subst (λ (author : List ℕ). Reach facts one n (seen_with (seen_of before author) (get_or facts.spans n none) dark)) (sym ((bytes_eq-Decides own.author revision.author).0 e))
        (Reach-with facts one n dark (seen_of before revision.author) (known.each one revision by) order within same is_dark)
    one-more one revision by false e =
        Reach-other facts one n (seen_of before revision.author) (known.each one revision by)
        (ap (same_author (revision_at facts.revisions one.revision)) is_own ∙ ap (λ r. same_author r (Some own)) by ∙ other_text own.author revision.author e) within

    pub AreSeen-more : AreSeen facts after n
    AreSeen-more = record {
      each = λ one revision by.
          subst (Reach facts one n) (sym (saw revision.author)) (one-more one revision by (bytes_eq own.author revision.author) refl);
    }

-- ---- pairs

-- what is found, and what is found of so many first spans, are all pairs
pub record Pairs (facts : Facts) (before found : List Pair) (left : ℕ) : Type 0 where
  pub pairs : found ++ formatted_upto facts left ≡ before ++ formatted_upto facts (length facts.spans)

pub Pairs-more : (facts : Facts) (before found made : List Pair) (left n : ℕ) → Pairs facts before found left → left ≡ suc n
    → made ≡ found ++ pair_behind facts n (slice_get facts.spans n) → Pairs facts before made n
Pairs-more facts before found made left n known more found_more =
    let known' : Pairs facts before found (suc n) = subst (Pairs facts before found) more known in
    record {
      pairs = ap (λ pairs. pairs ++ formatted_upto facts n) found_more
          ∙ append_assoc found (pair_behind facts n (slice_get facts.spans n)) (formatted_upto facts n) ∙ known'.pairs;
    }

pub Pairs-all : (facts : Facts) (before found : List Pair) (left : ℕ) → Pairs facts before found left → left ≡ 0
    → found ≡ before ++ formatted_upto facts (length facts.spans)
Pairs-all facts before found left known over =
    sym (append-nil found) ∙ ap (λ n. found ++ formatted_upto facts n) (sym over) ∙ known.pairs

-- ---- the change at a place

module _ (facts : Facts) (place : ℕ) (within : place < length facts.spans) where
  pub behind-not : is_loose facts.revisions facts.spans (get_or facts.spans place none) ≡ false → pair_behind facts place (slice_get facts.spans place) ≡ []
  behind-not other =
      ap (pair_behind facts place) (slice_get-get_or facts.spans place none within)
      ∙ ap (λ b. if b then pair_formatted facts (get_or facts.spans place none) (find (is_next facts (get_or facts.spans place none)) (drop (place + 1) facts.spans)) else []) other

  pub behind-is : is_loose facts.revisions facts.spans (get_or facts.spans place none) ≡ true
      → pair_behind facts place (slice_get facts.spans place)
      ≡ pair_formatted facts (get_or facts.spans place none) (find (is_next facts (get_or facts.spans place none)) (drop (place + 1) facts.spans))
  behind-is is =
      ap (pair_behind facts place) (slice_get-get_or facts.spans place none within)
      ∙ ap (λ b. if b then pair_formatted facts (get_or facts.spans place none) (find (is_next facts (get_or facts.spans place none)) (drop (place + 1) facts.spans)) else []) is

-- ---- the next one

module _ (facts : Facts) (one two : Span) where
  pub next-not : is_loose facts.revisions facts.spans two ≡ false → is_next facts one two ≡ false
  next-not other = ap (λ b. b && same_format facts one two) other

  pub next-other : same_format facts one two ≡ false → is_next facts one two ≡ false
  next-other other = ap (λ b. is_loose facts.revisions facts.spans two && b) other ∙ nothing (is_loose facts.revisions facts.spans two)
    where
      nothing : (b : Bool) → b && false ≡ false
      nothing true = refl
      nothing false = refl

  pub next-is : is_loose facts.revisions facts.spans two ≡ true → same_format facts one two ≡ true → is_next facts one two ≡ true
  next-is is same = ap (λ b. b && same_format facts one two) is ∙ same

-- ---- at the end

Reach-end : (facts : Facts) (one : Span) (end : ℕ) → length facts.passed ≤ end → ((k : ℕ) (d : Span) → k < length facts.spans → (get_or facts.spans k d).to ≤ end)
    → Reach facts one (length facts.spans) (record { low = end; at = end; apart = end })
Reach-end facts one end past ends = record {
  above = λ k d from bound same. absurd (omega (arith, from, bound));
  before = λ k d less bound. ends k d bound;
  held = λ unit from to. absurd (omega (arith, from, to));
  bound = omega arith;
  clear = λ unit from to. absurd (omega (arith, from, to));
  next = let dark : IsDark facts.passed end end = IsDark-past facts.passed end past in
      apart-is facts one end dark.here (list_any-none (is_by_author facts one end) facts.spans (λ k bound. by-past facts one end (get_or facts.spans k none) (ends k none bound)));
}

pub AreSeen-end : (facts : Facts) (seen : SeenBy) (end : ℕ) → length facts.passed ≤ end → ((k : ℕ) (d : Span) → k < length facts.spans → (get_or facts.spans k d).to ≤ end)
    → ((author : List ℕ) → seen_of seen author ≡ record { low = end; at = end; apart = end }) → AreSeen facts seen (length facts.spans)
AreSeen-end facts seen end past ends same = record {
  each = λ one revision by. subst (Reach facts one (length facts.spans)) (sym (same revision.author)) (Reach-end facts one end past ends);
}

-- what the author of a span did is seen with it
pub reach-own : (facts : Facts) (before : SeenBy) (n dark : ℕ) → AreSeen facts before (suc n) → AreInOrder facts.spans → n < length facts.spans → (own : Revision)
    → revision_at facts.revisions (get_or facts.spans n none).revision ≡ Some own → IsDark facts.passed (get_or facts.spans n none).to dark
    → Reach facts (get_or facts.spans n none) n (seen_with (seen_of before own.author) (get_or facts.spans n none) dark)
reach-own facts before n dark known order within own is_own is_dark =
    let same : is_same facts (get_or facts.spans n none) (get_or facts.spans n none) ≡ true =
    ap (λ r. same_author r r) is_own ∙ (bytes_eq-Decides own.author own.author).1 refl in
    Reach-with facts (get_or facts.spans n none) n dark (seen_of before own.author) (known.each (get_or facts.spans n none) own is_own) order within same is_dark
