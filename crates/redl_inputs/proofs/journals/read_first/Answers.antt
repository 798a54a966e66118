use Rattle.std.proofs.Common.{◌≡◌, arith, Ok, length, refl}
use Rattle.std.proofs.lemmas.Result.{err_from_is_err_and}
use Rattle.redl_inputs.proofs.ReadLaws.{reads_stops, reads_then_journal, takes_stops, takes_ok}
use Rattle.redl_inputs.specs.Journals.{journal_or_none}
use Rattle.redl_inputs.specs.Steps.{◌>>=◌}
use Rattle.redl_inputs.proofs.journals.read_first.Goals as goal

pub returns-in_err-bytes-clause-read : goal.returns-in_err-bytes-clause-read
returns-in_err-bytes-clause-read g c =
    let p = err_from_is_err_and c.from_residual.result c.from_residual.ensures.1 in
    rw (p.1, p.2) (reads_stops (λ whole reader files. journal_or_none c.args.name.now (reader.journal whole) >>= (λ journal. Ok (journal, length whole)))
    c.in_err-bytes.ensures.read)

pub returns-in_err-journal-clause-read : goal.returns-in_err-journal-clause-read
returns-in_err-journal-clause-read g c =
    let p = err_from_is_err_and c.from_residual-in_err-journal.result c.from_residual-in_err-journal.ensures.1 in
    let bytes = c.in_ok-bytes.bytes.items in
    rw (p.1, p.2) (reads_then_journal (λ whole reader. journal_or_none c.args.name.now (reader.journal whole) >>= (λ journal. Ok (journal, length whole)))
    c.in_ok-bytes.ensures.read (takes_stops (λ journal reader. Ok (journal, length bytes)) (rw c.deref.ensures.value at c.in_err-journal.ensures.read)))

pub returns-clause-read : goal.returns-clause-read
returns-clause-read g c =
    let bytes = c.in_ok-bytes.bytes.items in
    let size : c.len.result ≡ length bytes = omega (arith, c.len.ensures, c.in_ok-bytes.bytes.ok.0) in
    rw size (reads_then_journal (λ whole reader. journal_or_none c.args.name.now (reader.journal whole) >>= (λ journal. Ok (journal, length whole)))
    c.in_ok-bytes.ensures.read (takes_ok (λ journal. Ok (journal, length bytes)) (rw c.deref.ensures.value at c.in_ok-journal.ensures.read) refl))
