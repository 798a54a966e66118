use Rattle.std.proofs.Common.{◌∙◌, inr}
use Rattle.std.proofs.lemmas.Result.{err_from_is_err_and}
use Rattle.redl_commands_list.proofs.FormatLaws.{leaves_written, placed, reads_report}
use Rattle.redl_inputs.specs.Views.{admission_view}
use Rattle.redl_commands_list.proofs.report.report_session.Goals as goal

pub make_report-requires-clause-within : goal.make_report-requires-clause-within
make_report-requires-clause-within g c = (placed (λ b. (goal.ReportFormat-dyn g (b.vtable, b.value)).report_name b.value) c.args.command.now.format c.args.reports.now.items c.args.place c.requires.place).within

pub returns-in_err-made-clause-reports : goal.returns-in_err-made-clause-reports
returns-in_err-made-clause-reports g c =
    let p = err_from_is_err_and c.from_residual-in_err-made.result c.from_residual-in_err-made.ensures.1 in
    rw (p.1, p.2) (inr (c.make_report.ensures.taken ∙ (placed (λ b. (goal.ReportFormat-dyn g (b.vtable, b.value)).report_name b.value) c.args.command.now.format c.args.reports.now.items c.args.place c.requires.place).others))

pub returns-clause-reports : goal.returns-clause-reports
returns-clause-reports g c =
    leaves_written _ _ _ _ (c.make_report.ensures.taken ∙ (placed (λ b. (goal.ReportFormat-dyn g (b.vtable, b.value)).report_name b.value) c.args.command.now.format c.args.reports.now.items c.args.place c.requires.place).others)

pub returns-clause-read : goal.returns-clause-read
returns-clause-read g c =
    reads_report (λ b. (goal.ReportFormat-dyn g (b.vtable, b.value)).report_name b.value) (λ b. (goal.ReportFormat-dyn g (b.vtable, b.value)).report_text b.value)
    c.args.command.now.format c.args.command.now.by_kind (admission_view c.args.admitted) c.args.reports.now.items c.deref.result.now c.args.place c.in_ok-made.made.items
    (c.deref.ensures.value ∙ c.in_ok-lines.ensures.lines) c.requires.place c.in_ok-made.ensures.made
