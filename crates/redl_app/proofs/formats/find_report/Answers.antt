use Rattle.std.proofs.Common.{sym, ◌∙◌}
use Rattle.redl_commands_list.proofs.FormatLaws.{placed_there, unplaced}
use Rattle.redl_app.proofs.formats.find_report.Goals as goal

pub returns-in-Some-place_of_report-clause-there : goal.returns-in-Some-place_of_report-clause-there
returns-in-Some-place_of_report-clause-there g c =
    rw c.in-Some.is (sym (placed_there (λ b. (goal.ReportFormat-dyn g (b.vtable, b.value)).report_name b.value) (λ b. (goal.ReportFormat-dyn g (b.vtable, b.value)).report_text b.value)
    c.in-Some.name.now c.args.reports.now c.in-Some-place_of_report.place (sym c.place_of_report.ensures ∙ c.in-Some-place_of_report.is)))

pub returns-in-None-clause-there : goal.returns-in-None-clause-there
returns-in-None-clause-there g c =
    rw c.in-Some.is (sym (unplaced (λ b. (goal.ReportFormat-dyn g (b.vtable, b.value)).report_name b.value) (λ b. (goal.ReportFormat-dyn g (b.vtable, b.value)).report_text b.value)
    c.in-Some.name.now c.args.reports.now (sym c.place_of_report.ensures ∙ c.in-None.is)))
