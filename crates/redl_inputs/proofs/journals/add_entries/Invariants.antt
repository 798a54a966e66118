use Rattle.std.proofs.Common.{◌≡◌, All}
use Rattle.std.specs.Vec.Iter.{into_iter_items}
use Rattle.redl_join.specs.Books.{union}
use Rattle.redl_journal.specs.Journals.{IsAllowed}
use Rattle.redl_inputs.proofs.journals.add_entries.Given as goal

-- the book so far, and the entries that are left
abbrev pub invariant-loop-entry : goal.invariant-loop-entry
invariant-loop-entry l = record {
  allowed : All IsAllowed (into_iter_items l.entry-iterator);
  book : union l.book (into_iter_items l.entry-iterator) ≡ union l.initial.book l.fn.entries.items;
}
