use Rattle.std.proofs.Common.{◌≡◌, All}
use Rattle.std.specs.List.{filter_map}
use Rattle.redl_join.specs.Books.{union}
use Rattle.redl_journal.specs.Journals.{IsAllowed}
use Rattle.redl_sittings.specs.JoinedBooks.{mapped_back, with_second}
use Rattle.redl_sittings.proofs.book.add_second.Given as goal

-- the book so far with the entries still to come is that of all
abbrev pub invariant-loop-entry : goal.invariant-loop-entry
invariant-loop-entry l = record {
  mapped : union l.book (filter_map (mapped_back l.back) l.entry-iterator) ≡ with_second l.initial.book l.seconds l.back;
  allowed : All IsAllowed l.entry-iterator;
}
