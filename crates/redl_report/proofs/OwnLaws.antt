-- The entries of one reviewer: they are a book, and on few enough revisions to be counted.
use Rattle.std.proofs.Common.{◌≡◌, ◌∙◌, ◌≤◌, ◌<◌, ◌+◌, ◌&&◌, ℕ, nat_le, Bool, true, false, true≢false, List, [], ◌∷◌, ◌++◌, All, map, filter, length, Less, Greater, refl, sym, ap, arith}
use Rattle.std.specs.List.{AllByRecursion}
use Rattle.std.specs.List.Sorted.{IsStrictlySortedBy}
use Rattle.std.specs.Ordering.{nat_cmp, ordering_reverse}
use Rattle.std.specs.Str.{bytes_eq}
use Rattle.std.proofs.lemmas.Cmp.{nat_cmp_total, ranked}
use Rattle.std.proofs.lemmas.Bool.{leb-true}
use Rattle.std.proofs.lemmas.List.Elements.{All-filter, All-weaker, filter_passes, recursion_from_All}
use Rattle.std.proofs.lemmas.List.Kept.{IsStrictlySortedBy-filter}
use Rattle.redl_journal.specs.declared.entry.Entry.{Entry}
use Rattle.redl_journal.specs.Journals.{IsAllowed}
use Rattle.redl_journal.specs.Order.{entry_order}
use Rattle.redl_journal.proofs.EntryOrder.{entry_order-total}
use Rattle.redl_join.specs.Books.{IsBook, with_entry}
use Rattle.redl_report.specs.Groups.{Group, group_of, grouped, names_in_order}
use Rattle.redl_report.specs.Reports.{is_number, reviewer_of, revisions_on}
use Rattle.redl_report.proofs.GroupLaws.{keys-all, keys-sorted, none-sorted}

-- ---- a book that grows at its end

-- an entry after all others of a book is put at the end
pub entry-last : (before rest : List Entry) (entry : Entry) → IsBook (before ++ entry ∷ rest) → with_entry before entry ≡ before ++ entry ∷ []
unfolding IsStrictlySortedBy
entry-last [] rest entry sorted = refl
entry-last (x ∷ xs) rest entry sorted = rw more (ap (λ es. x ∷ es) (entry-last xs rest entry sorted.1)) where
  among : (ys : List Entry) → AllByRecursion (λ other. entry_order x other ≡ Less) (ys ++ entry ∷ rest) → entry_order x entry ≡ Less
  among [] all = all.0
  among (y ∷ ys) all = among ys all.1

  more : entry_order entry x ≡ Greater
  more = entry_order-total.antisymm entry x ∙ ap ordering_reverse (among xs sorted.0)

-- ---- numbers

below : (k n : ℕ) → nat_cmp k n ≡ Less → k < n
below k n less = ranked k n Less (sym less)

above-all : (k limit : ℕ) (ns : List ℕ) → AllByRecursion (λ n. nat_cmp k n ≡ Less) ns → AllByRecursion (λ n. n ≤ limit) ns → AllByRecursion (λ n. (k < n) × (n ≤ limit)) ns
above-all k limit [] less most = tt
above-all k limit (n ∷ ns) less most = ((below k n less.0, most.0), above-all k limit ns less.1 most.1)

at-most : (low limit : ℕ) (ns : List ℕ) → AllByRecursion (λ n. (low < n) × (n ≤ limit)) ns → AllByRecursion (λ n. n ≤ limit) ns
at-most low limit [] all = tt
at-most low limit (n ∷ ns) all = (all.0.1, at-most low limit ns all.1)

-- there are no more rising numbers than there are places for them
rising-fit : (low limit : ℕ) (ns : List ℕ) → low ≤ limit → IsStrictlySortedBy nat_cmp ns → AllByRecursion (λ n. (low < n) × (n ≤ limit)) ns → length ns + low ≤ limit
unfolding IsStrictlySortedBy
rising-fit low limit [] fits sorted all = omega (arith, fits)
rising-fit low limit (n ∷ ns) fits sorted all =
    omega (arith, all.0.0, rising-fit n limit ns all.0.1 sorted.1 (above-all n limit ns sorted.0 (at-most low limit ns all.1)))

number-within : (count number : ℕ) → is_number count number ≡ true → (0 < number) × (number ≤ count)
number-within count number is = by (nat_le 1 number) refl is where
  by : (b : Bool) → nat_le 1 number ≡ b → (b && nat_le number count) ≡ true → (0 < number) × (number ≤ count)
  by true first last = (leb-true 1 number first, leb-true number count last)
  by false first last = absurd (true≢false (sym last))

-- entries are on no more revisions than there are
pub few-revisions : (count : ℕ) (entries : List Entry) → length (revisions_on count entries) ≤ count
few-revisions count entries =
    let numbers = filter (is_number count) (map (λ (entry : Entry). entry.rev) entries) in
    let within : AllByRecursion (λ n. (0 < n) × (n ≤ count)) numbers =
    recursion_from_All (λ (n : ℕ). (0 < n) × (n ≤ count)) numbers
    (All-weaker (λ n. is_number count n ≡ true) (λ n. (0 < n) × (n ≤ count)) (number-within count) numbers (filter_passes (is_number count) (map (λ (entry : Entry). entry.rev) entries))) in
    omega (arith, rising-fit 0 count (revisions_on count entries) (omega arith) (keys-sorted nat_cmp nat_cmp_total [] numbers (none-sorted nat_cmp)) (keys-all nat_cmp (λ n. (0 < n) × (n ≤ count)) [] numbers tt within))

-- ---- the entries of one reviewer of a book

pub record IsOwn (group : Group Entry) : Type 0 where
  pub book : IsBook group.items
  pub allowed : All IsAllowed group.items

own : (book : List Entry) → IsBook book → All IsAllowed book → (name : List ℕ) → IsOwn (group_of reviewer_of book name)
own book sorted allowed name =
    let test = λ (entry : Entry). bytes_eq entry.reviewer name in
    record {
      book = IsStrictlySortedBy-filter entry_order test book sorted;
      allowed = All-filter test IsAllowed book allowed;
    }

pub all-own : (book : List Entry) → IsBook book → All IsAllowed book → AllByRecursion IsOwn (grouped reviewer_of book)
all-own book sorted allowed = each (names_in_order (map reviewer_of book)) where
  each : (names : List (List ℕ)) → AllByRecursion IsOwn (map (group_of reviewer_of book) names)
  each [] = tt
  each (name ∷ names) = (own book sorted allowed name, each names)
