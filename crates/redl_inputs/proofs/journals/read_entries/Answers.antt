use Rattle.std.proofs.Common.{refl, sym}
use Rattle.std.proofs.lemmas.Result.{err_from_is_err_and}
use Rattle.redl_inputs.proofs.JournalLaws.{entries_other_document, entries_other_count, entries_of_it}
use Rattle.redl_inputs.proofs.ReadLaws.{takes_stops, takes_then}
use Rattle.redl_inputs.specs.Journals.{entries_in}
use Rattle.redl_inputs.specs.Views.{document_view}
use Rattle.redl_journal.specs.Views.{journal_of}
use Rattle.redl_inputs.proofs.journals.read_entries.Goals as goal

pub returns-in_err-journal-clause-read : goal.returns-in_err-journal-clause-read
returns-in_err-journal-clause-read c =
    let p = err_from_is_err_and c.from_residual.result c.from_residual.ensures.1 in
    rw (p.1, p.2) (takes_stops (λ journal reader. entries_in (document_view c.args.document) c.args.name.now journal) c.in_err-journal.ensures.read)

pub returns-then-ne-clause-read : goal.returns-then-ne-clause-read
returns-then-ne-clause-read c =
    takes_then (λ journal reader. entries_in (document_view c.args.document) c.args.name.now journal) c.in_ok-journal.ensures.read
    (record {
      as_due = λ reader is. entries_other_document (document_view c.args.document) c.args.name.now (journal_of c.in_ok-journal.journal) (sym c.if-ne.ensures);
      of_no_file = refl;
    })

pub returns-then-journal-document-clause-read : goal.returns-then-journal-document-clause-read
returns-then-journal-document-clause-read c =
    takes_then (λ journal reader. entries_in (document_view c.args.document) c.args.name.now journal) c.in_ok-journal.ensures.read
    (record {
      as_due = λ reader is. entries_other_count (document_view c.args.document) c.args.name.now (journal_of c.in_ok-journal.journal) (sym c.if-ne.ensures) c.if-journal-document.true;
      of_no_file = refl;
    })

pub returns-clause-read : goal.returns-clause-read
returns-clause-read c =
    takes_then (λ journal reader. entries_in (document_view c.args.document) c.args.name.now journal) c.in_ok-journal.ensures.read
    (record {
      as_due = λ reader is. entries_of_it (document_view c.args.document) c.args.name.now (journal_of c.in_ok-journal.journal) (sym c.if-ne.ensures) c.if-journal-document.false;
      of_no_file = tt;
    })
