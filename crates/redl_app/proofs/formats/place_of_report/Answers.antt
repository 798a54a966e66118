use Rattle.std.proofs.Common.{sym}
use Rattle.redl_commands_list.proofs.FormatLaws.{placed_first, placed_here, placed_later, placed_nowhere}
use Rattle.redl_app.proofs.formats.place_of_report.Goals as goal

pub loop-place-init : goal.loop-place-init
loop-place-init g c = placed_first (λ b. (goal.ReportFormat-dyn g (b.vtable, b.value)).report_name b.value) c.args.name.now c.args.reports.now

pub loop-place-preserved : goal.loop-place-preserved
loop-place-preserved g c =
    placed_later (λ b. (goal.ReportFormat-dyn g (b.vtable, b.value)).report_name b.value) c.args.name.now c.args.reports.now c.loop-place.place c.index-reports-place.result
    c.loop-place-test.true c.index-reports-place.is (sym c.if-has_report_name.ensures) c.loop-place.invariant

pub returns-then-has_report_name : goal.returns-then-has_report_name
returns-then-has_report_name g c =
    placed_here (λ b. (goal.ReportFormat-dyn g (b.vtable, b.value)).report_name b.value) c.args.name.now c.args.reports.now c.loop-place.place c.index-reports-place.result
    c.loop-place-test.true c.index-reports-place.is (sym c.if-has_report_name.ensures) c.loop-place.invariant

pub returns : goal.returns
returns g c =
    placed_nowhere (λ b. (goal.ReportFormat-dyn g (b.vtable, b.value)).report_name b.value) c.args.name.now c.args.reports.now c.loop-place.place c.loop-place-test.false c.loop-place.invariant
