use Rattle.std.proofs.Common.{◌≡◌, All}
use Rattle.redl_join.specs.Books.{union}
use Rattle.redl_journal.specs.Journals.{IsAllowed}
use Rattle.redl_live_session.proofs.turning.copy_of.Given as goal

-- the copy so far with the entries still to come is the book
abbrev pub invariant-loop-entry : goal.invariant-loop-entry
invariant-loop-entry l = record {
  whole : union l.copy l.entry-iterator ≡ l.book;
  allowed : All IsAllowed l.entry-iterator;
}
