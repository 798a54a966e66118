use Rattle.std.proofs.Common.{◌≡◌, All}
use Rattle.redl_journal.specs.Journals.{IsAllowed}
use Rattle.redl_sample.specs.Journals.{entries_of}
use Rattle.redl_sample.proofs.entries.make_entries.Given as goal

-- the entries on the revisions so far
abbrev pub invariant-loop-before : goal.invariant-loop-before
invariant-loop-before l = record {
  entries : l.entries.items ≡ entries_of l.reviewer l.before;
  allowed : All IsAllowed l.entries.items;
}
