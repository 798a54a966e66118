use Rattle.std.proofs.lemmas.Result.{err_from_is_err_and}
use Rattle.redl_inputs.proofs.ReadLaws.{reads_stops, reads_then_takes}
use Rattle.redl_commands_shown.specs.Report.{report_named}
use Rattle.redl_commands_shown.specs.Formats.{formats_by}
use Rattle.redl_commands_list.proofs.report.report_package.Goals as goal

pub returns-in_err-admitted-clause-read : goal.returns-in_err-admitted-clause-read
returns-in_err-admitted-clause-read g c =
    let p = err_from_is_err_and c.from_residual.result c.from_residual.ensures.1 in
    let reports = formats_by (λ b. (goal.ReportFormat-dyn g (b.vtable, b.value)).report_name b.value) (λ b. (goal.ReportFormat-dyn g (b.vtable, b.value)).report_text b.value) c.args.reports.now.items in
    rw (p.1, p.2) (reads_stops (λ admission reader files. report_named reports c.args.command.now.format c.args.command.now.by_kind admission) (rw (c.deref.ensures.value, c.deref-2.ensures.value) at c.in_err-admitted.ensures))

pub returns-clause-read : goal.returns-clause-read
returns-clause-read g c =
    let reports = formats_by (λ b. (goal.ReportFormat-dyn g (b.vtable, b.value)).report_name b.value) (λ b. (goal.ReportFormat-dyn g (b.vtable, b.value)).report_text b.value) c.args.reports.now.items in
    reads_then_takes (λ admission reader. report_named reports c.args.command.now.format c.args.command.now.by_kind admission)
    (rw (c.deref.ensures.value, c.deref-2.ensures.value) at c.in_ok-admitted.ensures) c.report_session.ensures.read
