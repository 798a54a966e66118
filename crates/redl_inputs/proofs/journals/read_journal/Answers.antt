use Rattle.std.proofs.Common.{◌≡◌, arith, Ok, length, refl}
use Rattle.std.proofs.lemmas.Result.{err_from_is_err_and}
use Rattle.redl_inputs.proofs.ReadLaws.{reads_stops, reads_then_journal, takes_stops, takes_ok}
use Rattle.redl_inputs.specs.Journals.{entries_of}
use Rattle.redl_inputs.specs.Steps.{◌>>=◌}
use Rattle.redl_inputs.specs.Views.{document_view}
use Rattle.redl_inputs.proofs.journals.read_journal.Goals as goal

pub returns-in_err-bytes-clause-read : goal.returns-in_err-bytes-clause-read
returns-in_err-bytes-clause-read g c =
    let p = err_from_is_err_and c.from_residual.result c.from_residual.ensures.1 in
    let document = document_view c.args.document in
    rw (p.1, p.2) (reads_stops (λ whole reader files. entries_of document c.args.name.now (reader.journal whole) >>= (λ entries. Ok (entries, length whole)))
    c.in_err-bytes.ensures.read)

pub returns-in_err-entries-clause-read : goal.returns-in_err-entries-clause-read
returns-in_err-entries-clause-read g c =
    let p = err_from_is_err_and c.from_residual-in_err-entries.result c.from_residual-in_err-entries.ensures.1 in
    let document = document_view c.args.document in
    let bytes = c.in_ok-bytes.bytes.items in
    rw (p.1, p.2) (reads_then_journal (λ whole reader. entries_of document c.args.name.now (reader.journal whole) >>= (λ entries. Ok (entries, length whole)))
    c.in_ok-bytes.ensures.read (takes_stops (λ entries reader. Ok (entries, length bytes)) (rw c.deref.ensures.value at c.in_err-entries.ensures.read)))

pub returns-clause-read : goal.returns-clause-read
returns-clause-read g c =
    let document = document_view c.args.document in
    let bytes = c.in_ok-bytes.bytes.items in
    let size : c.len.result ≡ length bytes = omega (arith, c.len.ensures, c.in_ok-bytes.bytes.ok.0) in
    rw size (reads_then_journal (λ whole reader. entries_of document c.args.name.now (reader.journal whole) >>= (λ entries. Ok (entries, length whole)))
    c.in_ok-bytes.ensures.read (takes_ok (λ entries. Ok (entries, length bytes)) (rw c.deref.ensures.value at c.in_ok-entries.ensures.read) refl))
