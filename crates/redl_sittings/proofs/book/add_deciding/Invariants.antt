use Rattle.std.proofs.Common.{◌≡◌, All, filter}
use Rattle.redl_join.specs.Books.{union}
use Rattle.redl_join.specs.Verdicts.{verdict_at}
use Rattle.redl_journal.specs.Journals.{IsAllowed}
use Rattle.redl_sittings.specs.JoinedBooks.{deciding, is_decided}
use Rattle.redl_sittings.proofs.book.add_deciding.Given as goal

-- the book so far with the deciding ones of the entries still to come is that of all
abbrev pub invariant-loop-entry : goal.invariant-loop-entry
invariant-loop-entry l = record {
  kept : union l.book (filter (λ entry. is_decided (verdict_at l.firsts entry.rev)) l.entry-iterator) ≡ union l.initial.book (deciding l.firsts);
  allowed : All IsAllowed l.entry-iterator;
}
