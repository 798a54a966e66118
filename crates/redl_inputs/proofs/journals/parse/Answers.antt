use Rattle.std.proofs.Common.{ap}
use Rattle.redl_inputs.proofs.JournalLaws.{reads_journal}
use Rattle.redl_inputs.specs.Journals.{journal_or_none}
use Rattle.redl_journal.specs.Views.{journal_of}
use Rattle.redl_inputs.proofs.journals.parse.Goals as goal

pub returns-in-Ok-clause-read : goal.returns-in-Ok-clause-read
returns-in-Ok-clause-read c = record {
  as_due = λ reader is. ap (journal_or_none c.args.name.now) (reads_journal reader c.args.bytes.now (journal_of c.in-Ok.journal) is c.in-Ok.ensures.found);
  of_no_file = tt;
}
