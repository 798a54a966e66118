use Rattle.std.proofs.Common.{◌∷◌, ◌-◌, Ok, Err, ap, ◌∙◌, arith}
use Rattle.std.proofs.lemmas.Result.{err_from_is_err_and}
use Rattle.redl_inputs.proofs.AskLaws.{within_more}
use Rattle.redl_inputs.proofs.ReadLaws.{reads_before, reads_then, reads_stops, reads_after, reads_within}
use Rattle.redl_inputs.specs.Asking.{files_within}
use Rattle.redl_commands.specs.Join.{document_in, book_text, joined, union_of}
use Rattle.redl_inputs.specs.Steps.{◌>>=◌}
use Rattle.redl_commands.specs.Writing.{only_bytes}
use Rattle.redl_io.specs.Limits.{journal_bytes}
use Rattle.redl_journal.specs.Views.{journal_of}
use Rattle.redl_lines.specs.Failures.{no_memory}
use Rattle.redl_commands_write.proofs.join.join_to.Goals as goal

pub returns-in_err-journal : goal.returns-in_err-journal
returns-in_err-journal g c =
    let p = err_from_is_err_and c.from_residual.result c.from_residual.ensures.1 in
    let others = c.args.others.now in
    rw (p.1, p.2) (reads_before (files_within journal_bytes others)
    (reads_stops (λ first reader files. union_of reader files journal_bytes first others >>= (λ book. Ok (only_bytes (book_text (document_in first.0) book))))
    c.in_err-journal.ensures.read))

pub returns-in_err-started : goal.returns-in_err-started
returns-in_err-started g c =
    let p = err_from_is_err_and c.from_residual-in_err-started.result c.from_residual-in_err-started.ensures.1 in
    let others = c.args.others.now in
    rw (p.1, p.2) (reads_before (files_within journal_bytes others)
    (reads_after (Err no_memory) (λ reader files. joined reader files journal_bytes (c.args.name.now ∷ others)) c.in_ok-journal.ensures.read tt (λ reader files is read. tt)))

pub returns-in_err-book : goal.returns-in_err-book
returns-in_err-book g c =
    let p = err_from_is_err_and c.from_residual-in_err-book.result c.from_residual-in_err-book.ensures.1 in
    let others = c.args.others.now in
    let journal = journal_of c.in_ok-journal.journal in
    let joining = rw (c.in_ok-started.ensures.document, c.in_ok-started.ensures.book) at c.in_err-book.ensures in
    rw (p.1, p.2) (reads_then (λ first reader files. union_of reader files journal_bytes first others >>= (λ book. Ok (only_bytes (book_text (document_in first.0) book))))
    c.in_ok-journal.ensures.read
    (reads_within (files_within (journal_bytes - c.in_ok-journal.size) others) (files_within journal_bytes others) (within_more {left = journal_bytes - c.in_ok-journal.size} {most = journal_bytes} others (omega arith))
    (reads_stops (λ book reader files. Ok (only_bytes (book_text (document_in journal) book))) joining)))

pub returns : goal.returns
returns g c =
    let others = c.args.others.now in
    let journal = journal_of c.in_ok-journal.journal in
    let joining = rw (c.in_ok-started.ensures.document, c.in_ok-started.ensures.book) at c.in_ok-book.ensures in
    let view = c.only.ensures ∙ ap (λ d. only_bytes (book_text d c.in_ok-book.book)) c.in_ok-started.ensures.document in
    rw view
    (reads_then (λ first reader files. union_of reader files journal_bytes first others >>= (λ book. Ok (only_bytes (book_text (document_in first.0) book))))
    c.in_ok-journal.ensures.read
    (reads_within (files_within (journal_bytes - c.in_ok-journal.size) others) (files_within journal_bytes others) (within_more {left = journal_bytes - c.in_ok-journal.size} {most = journal_bytes} others (omega arith))
    (reads_after (Ok (only_bytes (book_text (document_in journal) c.in_ok-book.book)))
    (λ reader files. union_of reader files journal_bytes (journal, c.in_ok-journal.size) others >>= (λ book. Ok (only_bytes (book_text (document_in journal) book))))
    joining tt (λ reader files is read. ap (λ made. made >>= (λ book. Ok (only_bytes (book_text (document_in journal) book)))) read))))
