-- The last words on a revision (our own rule): of each reviewer the entries with their greatest seq on it, withdrawals too. They
-- alone make the verdict.
use Rattle.std.specs.Prelude.{ℕ, List, filter}
use Rattle.redl_journal.specs.declared.entry.Entry.{Entry}
use Rattle.redl_join.specs.declared.last_words.LastWords.{LastWords}
use Rattle.redl_join.specs.Listed.{entries_at}
use Rattle.redl_join.specs.Verdicts.{counts}

-- the entries that count on the revision, in their order
abbrev pub last_words : List Entry → ℕ → List Entry
last_words entries rev = filter (counts entries rev) entries

-- the words on the revision that the code gives
abbrev pub words_on : LastWords → ℕ → List Entry
words_on words rev = entries_at words.by_revision rev
