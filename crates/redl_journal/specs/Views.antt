-- The code's journals as plain data.
use Rattle.redl_journal.specs.declared.journal.Journal as code
use Rattle.redl_journal.specs.Journals.{Journal}

-- a journal of the code as plain data
abbrev pub journal_of : code.Journal → Journal
journal_of journal = record {
  digest = journal.digest;
  count = journal.count;
  entries = journal.entries.items;
}
