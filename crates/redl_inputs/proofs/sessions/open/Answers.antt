use Rattle.std.proofs.lemmas.Result.{err_from_is_err_and}
use Rattle.redl_inputs.proofs.ReadLaws.{takes_stops_reads, takes_then_reads}
use Rattle.redl_inputs.specs.Admission.{opened_over}
use Rattle.redl_inputs.specs.Asking.{files_within}
use Rattle.redl_io.specs.Limits.{journal_bytes}
use Rattle.redl_inputs.proofs.sessions.open.Goals as goal

pub returns-in_err-package : goal.returns-in_err-package
returns-in_err-package g c =
    let p = err_from_is_err_and c.from_residual.result c.from_residual.ensures.1 in
    let names = c.args.journals.now in
    rw (p.1, p.2) (takes_stops_reads (λ nodes reader files. opened_over reader files c.args.locks.now names c.args.bytes.now nodes)
    _ (files_within journal_bytes names) c.in_err-package.ensures.read)

pub returns : goal.returns
returns g c =
    takes_then_reads (λ nodes reader files. opened_over reader files c.args.locks.now c.args.journals.now c.args.bytes.now nodes)
    c.in_ok-package.ensures.read c.open_package.ensures.read
