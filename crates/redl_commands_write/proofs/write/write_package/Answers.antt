use Rattle.std.proofs.Common.{Ok, Err, ap, sym, ◌∙◌}
use Rattle.std.proofs.lemmas.Result.{err_from_is_err_and}
use Rattle.redl_inputs.proofs.ReadLaws.{reads_stops, reads_after}
use Rattle.redl_commands.specs.Write.{resolved, written}
use Rattle.redl_inputs.specs.Steps.{◌>>=◌}
use Rattle.redl_commands.specs.Views.{writing_view}
use Rattle.redl_lines.specs.Failures.{no_memory}
use Rattle.redl_commands_write.proofs.write.write_package.Goals as goal

pub returns-in_err-admitted : goal.returns-in_err-admitted
returns-in_err-admitted g c =
    let p = err_from_is_err_and c.from_residual.result c.from_residual.ensures.1 in
    rw (p.1, p.2) (reads_stops (λ admission reader files. Ok (resolved c.args.locks.now admission)) c.in_err-admitted.ensures)

pub returns-in_err-resolve : goal.returns-in_err-resolve
returns-in_err-resolve g c =
    let p = err_from_is_err_and c.from_residual-in_err-resolve.result c.from_residual-in_err-resolve.ensures.1 in
    rw (p.1, p.2) (reads_after (Err no_memory) (λ reader files. written reader files c.args.locks.now c.args.journals.now c.args.bytes.now) c.in_ok-admitted.ensures tt (λ reader files is read. tt))

pub returns : goal.returns
returns g c =
    reads_after (Ok (writing_view c.in_ok-resolve.field-0)) (λ reader files. written reader files c.args.locks.now c.args.journals.now c.args.bytes.now) c.in_ok-admitted.ensures tt
    (λ reader files is read. ap (λ made. made >>= (λ admission. Ok (resolved c.args.locks.now admission))) read ∙ ap Ok (sym c.in_ok-resolve.ensures))
