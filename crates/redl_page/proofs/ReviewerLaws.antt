-- The items of reviewers in one pass are those of the definition, since a book is in its order.
use Rattle.std.proofs.Common.{◌≡◌, ◌≤◌, ◌<◌, ℕ, List, [], ◌∷◌, ◌++◌, Bool, true, false, Option, Some, None, Ordering, Less, Equal, Greater, refl, sym, ap, subst, ◌∙◌, ◌⊎◌, inl, inr, arith, if◌then◌else◌}
use Rattle.std.specs.Prelude.{max, bytes_eq}
use Rattle.std.specs.Cmp.{ranks}
use Rattle.std.specs.Cmp.Lexicographic.{slice_cmp}
use Rattle.std.specs.List.{AllByRecursion}
use Rattle.std.specs.List.Sorted.{IsStrictlySortedBy}
use Rattle.std.specs.Ordering.{MatchOrdering, is_eq, nat_cmp, ordering_reverse, ordering_then}
use Rattle.std.proofs.lemmas.Cmp.{nat_list_cmp_total}
use Rattle.std.proofs.lemmas.Map.Lookups.{exact_bytes}
use Rattle.std.proofs.lemmas.Map.Text.{is_eq-slice_cmp}
use Rattle.std.proofs.lemmas.Slice.Eq.{bytes_eq-Decides}
use Rattle.redl_journal.specs.declared.entry.Entry.{Entry}
use Rattle.redl_journal.specs.Order.{entry_order, word_place}
use Rattle.redl_join.specs.Books.{IsBook}
use Rattle.redl_join.specs.Verdicts.{greatest_seq}
use Rattle.redl_page.specs.Changes.{reviewer_item, reviewers, reviewers_after}
use Rattle.redl_page.specs.Reviewers.{item_of, items_from}
use Rattle.redl_html.specs.Pieces.{own, number, outside, pieces_text}
use Rattle.redl_html.proofs.PieceLaws.{pieces_text-append}
use Rattle.redl_page.specs.Reviewers.{item_before}

-- ---- the order of reviewers

abbrev names : List ℕ → List ℕ → Ordering
names = slice_cmp nat_cmp

-- of two entries in their order, the reviewers are so too, or the same, and then the sequence numbers are
names_or_seq : (x y : Entry) → entry_order x y ≡ Less → (names x.reviewer y.reviewer ≡ Less) ⊎ ((names x.reviewer y.reviewer ≡ Equal) × (x.seq ≤ y.seq))
names_or_seq x y h =
    at (names x.reviewer y.reviewer) (nat_cmp x.seq y.seq) (ordering_then (nat_cmp x.rev y.rev) (ordering_then (nat_cmp (word_place x.word) (word_place y.word)) (nat_cmp x.rank y.rank))) (ranks x.seq y.seq) h where
      at : (o p r : Ordering) → MatchOrdering p (x.seq < y.seq) (x.seq ≡ y.seq) (y.seq < x.seq) → ordering_then o (ordering_then p r) ≡ Less → (o ≡ Less) ⊎ ((o ≡ Equal) × (x.seq ≤ y.seq))
      at Less p r m h = inl refl
      at Equal Less r m h = inr (refl, omega (arith, m))
      at Equal Equal r m h = inr (refl, omega (arith, m))
      at Equal Greater r m h = absurd cc
      at Greater p r m h = absurd cc

differ : (a b : List ℕ) → names a b ≡ Less → bytes_eq a b ≡ false
differ a b h = sym (is_eq-slice_cmp a b) ∙ ap is_eq h

differ_back : (a b : List ℕ) → names a b ≡ Less → bytes_eq b a ≡ false
differ_back a b h = sym (is_eq-slice_cmp b a) ∙ ap is_eq (nat_list_cmp_total.antisymm b a ∙ ap ordering_reverse h)

not_tied : (a b : List ℕ) → bytes_eq a b ≡ false → names a b ≡ Equal → ⊥
not_tied a b f h = let t = sym (is_eq-slice_cmp a b) ∙ ap is_eq h in absurd (let wrong = sym f ∙ t in cc)

chain : (a b c : List ℕ) → names a b ≡ Less → (names b c ≡ Less) ⊎ (names b c ≡ Equal) → names a c ≡ Less
chain a b c h (inl g) = nat_list_cmp_total.trans a b c h g
chain a b c h (inr g) = subst (λ d. names a d ≡ Less) (exact_bytes b c g) h

-- ---- the greatest sequence number

own_seq : (e : Entry) (es : List Entry) → greatest_seq (e ∷ es) e.reviewer ≡ max e.seq (greatest_seq es e.reviewer)
own_seq e es = ap (λ b. max (if b then e.seq else 0) (greatest_seq es e.reviewer)) ((bytes_eq-Decides e.reviewer e.reviewer).1 refl)

skip : (e : Entry) (es : List Entry) (r : List ℕ) → bytes_eq e.reviewer r ≡ false → greatest_seq (e ∷ es) r ≡ greatest_seq es r
skip e es r f = ap (λ b. max (if b then e.seq else 0) (greatest_seq es r)) f ∙ from_none (greatest_seq es r) where
  from_none : (n : ℕ) → max 0 n ≡ n
  from_none n = omega arith

-- a reviewer before all these has none of them
none_of : (r : List ℕ) (es : List Entry) → AllByRecursion (λ x. names r x.reviewer ≡ Less) es → greatest_seq es r ≡ 0
none_of r [] h = refl
none_of r (x ∷ xs) h = skip x xs r (differ_back r x.reviewer h.0) ∙ none_of r xs h.1

all_after : (r : List ℕ) (e : Entry) (es : List Entry) → names r e.reviewer ≡ Less → AllByRecursion (λ x. entry_order e x ≡ Less) es → AllByRecursion (λ x. names r x.reviewer ≡ Less) es
all_after r e [] h all = tt
all_after r e (x ∷ xs) h all = (by (names_or_seq e x all.0), all_after r e xs h all.1) where
  by : (names e.reviewer x.reviewer ≡ Less) ⊎ ((names e.reviewer x.reviewer ≡ Equal) × (e.seq ≤ x.seq)) → names r x.reviewer ≡ Less
  by (inl g) = chain r e.reviewer x.reviewer h (inl g)
  by (inr g) = chain r e.reviewer x.reviewer h (inr g.0)

-- ---- the items

item_is : (book : List Entry) (l : Entry) → greatest_seq book l.reviewer ≡ l.seq → item_of l ≡ reviewer_item book l.reviewer
item_is book l e = ap (λ (n : ℕ). own "<li data-sequence=\"" ∷ number n ∷ own "\">" ∷ outside l.reviewer ∷ own "</li>\n" ∷ []) (sym e)

right_none : (n m : ℕ) → m ≡ 0 → max n m ≡ n
right_none n m e = omega (arith, e)

-- after an entry, where reviewers after its own have entries here alone
items_same : (book : List Entry) (l : Entry) (es : List Entry) → IsStrictlySortedBy entry_order (l ∷ es)
    → ((r : List ℕ) → names l.reviewer r ≡ Less → greatest_seq book r ≡ greatest_seq es r)
    → greatest_seq book l.reviewer ≡ max l.seq (greatest_seq es l.reviewer)
    → items_from (Some l) es ≡ reviewer_item book l.reviewer ++ reviewers_after book (Some l.reviewer) es
unfolding IsStrictlySortedBy
items_same book l [] s q o = item_is book l (o ∙ right_none l.seq 0 refl)
items_same book l (e ∷ es) s q o = at (bytes_eq l.reviewer e.reviewer) refl (names_or_seq l e s.0.0) (items_same book e es s.1) where
  later : (names l.reviewer e.reviewer ≡ Less) ⊎ ((names l.reviewer e.reviewer ≡ Equal) × (l.seq ≤ e.seq)) → (r : List ℕ) → names e.reviewer r ≡ Less → greatest_seq book r ≡ greatest_seq es r
  later (inl g) r h = q r (chain l.reviewer e.reviewer r g (inl h)) ∙ skip e es r (differ e.reviewer r h)
  later (inr g) r h = q r (subst (λ a. names a r ≡ Less) (sym (exact_bytes l.reviewer e.reviewer g.0)) h) ∙ skip e es r (differ e.reviewer r h)

  at : (same : Bool) → bytes_eq l.reviewer e.reviewer ≡ same → (names l.reviewer e.reviewer ≡ Less) ⊎ ((names l.reviewer e.reviewer ≡ Equal) × (l.seq ≤ e.seq))
      → (((r : List ℕ) → names e.reviewer r ≡ Less → greatest_seq book r ≡ greatest_seq es r) → greatest_seq book e.reviewer ≡ max e.seq (greatest_seq es e.reviewer)
      → items_from (Some e) es ≡ reviewer_item book e.reviewer ++ reviewers_after book (Some e.reviewer) es)
      → (if same then [] else item_of l) ++ items_from (Some e) es
      ≡ reviewer_item book l.reviewer ++ ((if same then [] else reviewer_item book e.reviewer) ++ reviewers_after book (Some e.reviewer) es)
  at true is (inl g) ih = absurd (let wrong = sym is ∙ differ l.reviewer e.reviewer g in cc)
  at true is (inr g) ih =
      let name : l.reviewer ≡ e.reviewer = exact_bytes l.reviewer e.reviewer g.0 in
      let rest = greatest_seq es e.reviewer in
      let mine : greatest_seq book e.reviewer ≡ max l.seq (greatest_seq (e ∷ es) e.reviewer) = subst (λ r. greatest_seq book r ≡ max l.seq (greatest_seq (e ∷ es) r)) name o in
      let both : max l.seq (max e.seq rest) ≡ max e.seq rest = omega (arith, g.1) in
      ih (later (inr g)) (mine ∙ ap (max l.seq) (own_seq e es) ∙ both)
      ∙ ap (λ r. reviewer_item book r ++ reviewers_after book (Some e.reviewer) es) (sym name)
  at false is (inr g) ih = absurd (not_tied l.reviewer e.reviewer is g.0)
  at false is (inl g) ih =
      let none : greatest_seq (e ∷ es) l.reviewer ≡ 0 = skip e es l.reviewer (differ_back l.reviewer e.reviewer g) ∙ none_of l.reviewer es (all_after l.reviewer e es g s.1.0) in
      ap (λ item. item ++ items_from (Some e) es) (item_is book l (o ∙ right_none l.seq (greatest_seq (e ∷ es) l.reviewer) none))
      ∙ ap (λ items. reviewer_item book l.reviewer ++ items) (ih (later (inl g)) (q e.reviewer g ∙ own_seq e es))

pub reviewers_same : (book : List Entry) → IsBook book → items_from None book ≡ reviewers book
unfolding IsStrictlySortedBy
reviewers_same [] s = refl
reviewers_same (e ∷ es) s = items_same (e ∷ es) e es s (λ r h. skip e es r (differ e.reviewer r h)) (own_seq e es)

-- ---- one after the other

pub items-more : (last : Option Entry) (entry : Entry) (entries : List Entry) → pieces_text (items_from last (entry ∷ entries))
    ≡ pieces_text (item_before last entry) ++ pieces_text (items_from (Some entry) entries)
items-more last entry entries = pieces_text-append (item_before last entry) (items_from (Some entry) entries)
