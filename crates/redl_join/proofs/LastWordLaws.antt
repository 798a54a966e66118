-- The last words on a revision: how to tell that an entry is one, how they are listed, and that they alone make the verdict.
use Rattle.std.proofs.Common.{◌≡◌, ℕ, Bool, true, false, cond, eqb, List, [], ◌∷◌, ◌++◌, refl, sym, ap, ◌∙◌, arith, filter}
use Rattle.std.specs.Prelude.{◌&&◌, ◌||◌, not, nat_le}
use Rattle.std.specs.List.{list_all}
use Rattle.std.proofs.lemmas.Bool.{eqb-true, and_parts}
use Rattle.std.proofs.lemmas.Bool.Decides.{nat_tests}
use Rattle.std.proofs.lemmas.Cmp.{tied_itself}
use Rattle.std.proofs.Math.Bool.{or-true}
use Rattle.std.specs.Cmp.{both_ways}
use Rattle.redl_journal.specs.declared.entry.Entry.{Entry}
use Rattle.redl_journal.proofs.EntryOrder.{entry_order-total}
use Rattle.redl_join.specs.Books.{is_on, is_same, has_entry}
use Rattle.redl_join.specs.Inside.Latest.{latest_words}
use Rattle.redl_join.specs.LastWords.{last_words}
use Rattle.redl_join.specs.Inside.Ranks.{rank_where, higher, verdict_by}
use Rattle.redl_join.specs.Verdicts.{has_same_reviewer, counts, is_accept, is_reject, verdict_at}
use Rattle.redl_join.proofs.Decides.{highest_of, verdict-highest}
use Rattle.redl_join.proofs.LatestWords.{is_by-true}
use Rattle.redl_join.proofs.Kept.{greatest_counts, counting_seq, is_there}
use Rattle.redl_join.proofs.NumbersOf.{bytes_same}

eqb_swap : (a b : ℕ) → eqb a b ≡ eqb b a
eqb_swap a b = grind (arith, nat_tests)

-- an entry of a book counts exactly if it has the greatest seq of its reviewer's
pub counts-seq : (es : List Entry) (e : Entry) → has_entry es e ≡ true → eqb (latest_words es e.rev e.reviewer).seq e.seq ≡ counts es e.rev e
counts-seq es e has =
    eqb_swap (latest_words es e.rev e.reviewer).seq e.seq
    ∙ both_ways (eqb e.seq (latest_words es e.rev e.reviewer).seq) (counts es e.rev e)
    (λ h. greatest_counts es e.rev e.reviewer e (is_by-true e.rev e.reviewer e refl (bytes_same e.reviewer e.reviewer refl)) (eqb-true e.seq (latest_words es e.rev e.reviewer).seq h))
    (λ h. let same = counting_seq es e.rev e h (is_there es e has) in grind (arith, nat_tests))

-- ---- one of its entries

-- an entry among those of a book
pub has-among : (before rest all : List Entry) (e : Entry) → before ++ (e ∷ rest) ≡ all → has_entry all e ≡ true
has-among before rest all e whole = ap (λ (l : List Entry). has_entry l e) (sym whole) ∙ there before where
  there : (xs : List Entry) → has_entry (xs ++ (e ∷ rest)) e ≡ true
  there [] = rw (tied_itself entry_order-total e) refl
  there (x ∷ xs) = rw (there xs) (or-true (is_same e x))

-- ---- the verdict

all-filter : (test p : Entry → Bool) (xs : List Entry) → list_all test xs ≡ true → list_all test (filter p xs) ≡ true
all-filter test p [] h = refl
all-filter test p (x ∷ xs) h = let parts = and_parts (test x) (list_all test xs) h in by (p x) (all-filter test p xs parts.1) where
  by : (b : Bool) → list_all test (filter p xs) ≡ true → list_all test (cond b (x ∷ filter p xs) (filter p xs)) ≡ true
  by true rest = let own = (and_parts (test x) (list_all test xs) h).0 in rw (own, rest) refl
  by false rest = rest

-- what counts among all counts among the last words
counts-last : (es : List Entry) (rev : ℕ) (e : Entry) → counts es rev e ≡ true → counts (last_words es rev) rev e ≡ true
counts-last es rev e h =
    let parts = and_parts (is_on rev e) (list_all (λ o. not (is_on rev o && has_same_reviewer o e) || nat_le o.seq e.seq) es) h in
    let rest = all-filter (λ o. not (is_on rev o && has_same_reviewer o e) || nat_le o.seq e.seq) (counts es rev) es parts.1 in
    rw (parts.0, rest) refl

highest-last : (es : List Entry) (rev : ℕ) (w : Entry → Bool) (xs : List Entry)
    → highest_of (λ e. counts (last_words es rev) rev e && w e) (filter (counts es rev) xs) ≡ highest_of (λ e. counts es rev e && w e) xs
highest-last es rev w [] = refl
highest-last es rev w (x ∷ xs) = by (counts es rev x) refl (highest-last es rev w xs) where
  by : (b : Bool) → counts es rev x ≡ b → highest_of (λ e. counts (last_words es rev) rev e && w e) (filter (counts es rev) xs) ≡ highest_of (λ e. counts es rev e && w e) xs
      → highest_of (λ e. counts (last_words es rev) rev e && w e) (cond b (x ∷ filter (counts es rev) xs) (filter (counts es rev) xs))
      ≡ higher (rank_where (b && w x) x.rank) (highest_of (λ e. counts es rev e && w e) xs)
  by true is rec = rw (counts-last es rev x is, rec) refl
  by false is rec = rec

-- the last words alone make the verdict
pub verdict-last : (es : List Entry) (rev : ℕ) → verdict_at (last_words es rev) rev ≡ verdict_at es rev
verdict-last es rev =
    verdict-highest (last_words es rev) rev
    ∙ ap (λ o. verdict_by o (highest_of (λ e. counts (last_words es rev) rev e && is_reject e) (last_words es rev))) (highest-last es rev is_accept es)
    ∙ ap (λ o. verdict_by (highest_of (λ e. counts es rev e && is_accept e) es) o) (highest-last es rev is_reject es)
    ∙ sym (verdict-highest es rev)
