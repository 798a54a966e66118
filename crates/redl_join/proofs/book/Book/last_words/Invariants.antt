use Rattle.std.proofs.Common.{◌≡◌, ◌++◌, ℕ, filter, map}
use Rattle.std.specs.Map.Iter.{deref}
use Rattle.redl_join.specs.LastWords.{words_on}
use Rattle.redl_join.specs.Verdicts.{counts}
use Rattle.redl_join.proofs.book.Book.last_words.Given as goal

abbrev pub invariant-loop-entry : goal.invariant-loop-entry
invariant-loop-entry l =
    (map deref l.yielded ++ l.entry-iterator ≡ l.self)
    × ((rev : ℕ) → words_on l.words rev ≡ filter (counts l.self rev) (map deref l.yielded))
