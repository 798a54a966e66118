use Rattle.std.proofs.Common.{Ok, Err, map, sym, ap}
use Rattle.std.proofs.lemmas.Result.{err_from_is_err_and}
use Rattle.redl_commands_resume.specs.Inside.FirstSittings.{joined_by, second_joined}
use Rattle.redl_inputs.proofs.ReadLaws.{reads_after, reads_stops, reads_then_takes, takes_stops_reads, takes_then_reads}
use Rattle.redl_inputs.specs.Admission.{sitting_over}
use Rattle.redl_inputs.specs.Asking.{files_within}
use Rattle.redl_lines.specs.Failures.{no_memory}
use Rattle.redl_commands_resume.proofs.resume.take_second.Goals as goal

pub returns-in_err-package : goal.returns-in_err-package
returns-in_err-package g c =
    let p = err_from_is_err_and c.from_residual.result c.from_residual.ensures.1 in
    let journals = c.args.second.journals.now in
    rw (p.1, p.2) (reads_stops (λ two reader files. Ok (joined_by c.args.decided (map (λ part. part.items) c.args.numbers.now) two.0))
    (takes_stops_reads (λ nodes reader files. sitting_over reader files c.args.second.left journals c.args.whole.items nodes) _ (files_within c.args.second.left journals) (rw c.deref.ensures.value at c.in_err-package.ensures.read)))

pub returns-in_err-admitted : goal.returns-in_err-admitted
returns-in_err-admitted g c =
    let p = err_from_is_err_and c.from_residual-in_err-admitted.result c.from_residual-in_err-admitted.ensures.1 in
    rw (p.1, p.2) (reads_stops (λ two reader files. Ok (joined_by c.args.decided (map (λ part. part.items) c.args.numbers.now) two.0))
    (takes_then_reads (λ nodes reader files. sitting_over reader files c.args.second.left c.args.second.journals.now c.args.whole.items nodes) (rw c.deref.ensures.value at c.in_ok-package.ensures.read) (rw c.deref-2.ensures.value at c.in_err-admitted.ensures.read)))

pub returns-in_err-join : goal.returns-in_err-join
returns-in_err-join g c =
    let p = err_from_is_err_and c.from_residual-in_err-join.result c.from_residual-in_err-join.ensures.1 in
    rw (p.1, p.2) (reads_after (Err no_memory) (λ reader files. second_joined reader files c.args.second.left c.args.second.journals.now c.args.whole.items c.args.decided (map (λ part. part.items) c.args.numbers.now))
    (takes_then_reads (λ nodes reader files. sitting_over reader files c.args.second.left c.args.second.journals.now c.args.whole.items nodes) (rw c.deref.ensures.value at c.in_ok-package.ensures.read) (rw c.deref-2.ensures.value at c.in_ok-admitted.ensures.read))
    tt (λ reader files is read. tt))

pub returns : goal.returns
returns g c =
    reads_then_takes (λ two reader. Ok (joined_by c.args.decided (map (λ part. part.items) c.args.numbers.now) two.0))
    (takes_then_reads (λ nodes reader files. sitting_over reader files c.args.second.left c.args.second.journals.now c.args.whole.items nodes) (rw c.deref.ensures.value at c.in_ok-package.ensures.read) (rw c.deref-2.ensures.value at c.in_ok-admitted.ensures.read))
    (record { as_due = λ reader is. ap Ok (sym c.in_ok-join.ensures); of_no_file = tt })
