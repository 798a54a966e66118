use Rattle.std.proofs.Common.{◌≡◌, max}
use Rattle.redl_join.specs.Verdicts.{greatest_seq}
use Rattle.redl_join.proofs.book.Book.greatest.Given as goal

abbrev pub invariant-loop-entry : goal.invariant-loop-entry
invariant-loop-entry l = max l.greatest (greatest_seq l.entry-iterator l.reviewer) ≡ greatest_seq l.self l.reviewer
