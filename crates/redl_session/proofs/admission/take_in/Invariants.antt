use Rattle.std.proofs.Common.{◌≡◌, ◌++◌, All}
use Rattle.std.specs.Vec.Iter.{into_iter_items}
use Rattle.redl_join.specs.Books.{union}
use Rattle.redl_journal.specs.Journals.{IsAllowed}
use Rattle.redl_session.specs.Refusals.{admitted, refusals}
use Rattle.redl_session.proofs.admission.take_in.Given as goal

-- the entries so far were taken in, or refused
abbrev pub invariant-loop-entry : goal.invariant-loop-entry
invariant-loop-entry l = record {
  whole : l.yielded ++ into_iter_items l.entry-iterator ≡ l.fn.entries.items;
  allowed : All IsAllowed (into_iter_items l.entry-iterator);
  taken : l.book ≡ union l.fn.book (admitted l.index l.locks l.yielded);
  refused : l.refused.items ≡ refusals l.index l.locks l.yielded;
}
