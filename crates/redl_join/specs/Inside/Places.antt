-- The words that count, by revision and by the reviewer's number.
use Rattle.std.specs.Prelude.{◌≡◌, ℕ, Bool, true, false, List, Option, Some, None, is_some, All}
use Rattle.std.specs.BTreeMap.{BTreeMap, get}
use Rattle.std.specs.List.{AllByRecursion}
use Rattle.std.specs.Option.{unwrap_or}
use Rattle.std.specs.Ordering.{nat_cmp}
use Rattle.redl_journal.specs.declared.entry.Entry.{Entry}
use Rattle.redl_journal.specs.Journals.{IsAllowed}
use Rattle.redl_join.specs.declared.latest.Latest.{Latest}
use Rattle.redl_join.specs.Books.{IsBook}
use Rattle.redl_join.specs.Inside.Latest.{no_words, latest_words}
use Rattle.redl_join.specs.Inside.Numbers.{Numbered, AreNumbers, has_number, is_numbered, is_taken}

-- the words of the reviewer with this number, or no words
abbrev pub words_of : BTreeMap ℕ Latest → ℕ → Latest
words_of by_reviewer number = unwrap_or (get nat_cmp by_reviewer number) no_words

abbrev pub words_in : Option (BTreeMap ℕ Latest) → ℕ → Latest
words_in None number = no_words
words_in (Some by_reviewer) number = words_of by_reviewer number

-- the words on the revision of the reviewer with this number, or no words
abbrev pub words_at : BTreeMap ℕ (BTreeMap ℕ Latest) → ℕ → ℕ → Latest
words_at by_revision rev number = words_in (get nat_cmp by_revision rev) number

abbrev pub has_words_in : Option (BTreeMap ℕ Latest) → ℕ → Bool
has_words_in None number = false
has_words_in (Some by_reviewer) number = is_some (get nat_cmp by_reviewer number)

-- there is a place for these words
abbrev pub has_words : BTreeMap ℕ (BTreeMap ℕ Latest) → ℕ → ℕ → Bool
has_words by_revision rev number = has_words_in (get nat_cmp by_revision rev) number

-- the invariant of a book: its entries are in order, and a journal may hold each; their reviewers have numbers; on each
-- revision each number has the words of its reviewer that count, and a number that nobody has has none
pub record IsKept (entries : List Entry) (numbers : List Numbered) (by_revision : BTreeMap ℕ (BTreeMap ℕ Latest)) : Type 0 where
  pub ordered : IsBook entries
  pub allowed : All IsAllowed entries
  pub numbers_are : AreNumbers numbers
  pub numbered : AllByRecursion (λ entry. is_numbered numbers entry.reviewer ≡ true) entries
  pub words : (rev : ℕ) (reviewer : List ℕ) (number : ℕ) → has_number numbers reviewer number ≡ true
      → words_at by_revision rev number ≡ latest_words entries rev reviewer
  pub nobody : (rev number : ℕ) → is_taken numbers number ≡ false → words_at by_revision rev number ≡ no_words
