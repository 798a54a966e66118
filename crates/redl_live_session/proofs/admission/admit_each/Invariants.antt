use Rattle.std.proofs.Common.{◌≡◌, ◌++◌, All}
use Rattle.std.specs.Vec.Iter.{into_iter_items}
use Rattle.redl_journal.specs.Journals.{IsAllowed}
use Rattle.redl_session.specs.Sessions.{after}
use Rattle.redl_live_session.proofs.admission.admit_each.Given as goal

-- the session is as after the entries so far
abbrev pub invariant-loop-entry : goal.invariant-loop-entry
invariant-loop-entry l = record {
  whole : l.yielded ++ into_iter_items l.entry-iterator ≡ l.fn.entries.items;
  allowed : All IsAllowed (into_iter_items l.entry-iterator);
  taken : l.session ≡ after l.fn.session l.yielded;
}
