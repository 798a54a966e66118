-- The chosen format is one of the list, so it is open and has no line.
use Rattle.std.proofs.Common.{◌≡◌, [], false, refl, sym, ◌∙◌}
use Rattle.redl_formats.proofs.NameLaws.{named_has, nothing_named}
use Rattle.redl_report.proofs.making.report.Goals as goal

pub report_in-requires-clause-fresh : goal.report_in-requires-clause-fresh
report_in-requires-clause-fresh g c =
    named_has (λ b. ((goal.ReportFormat-dyn g (b.vtable, b.value)).is_ended b.value ≡ false) × ((goal.ReportFormat-dyn g (b.vtable, b.value)).lines_so_far b.value ≡ [])) (λ b. (goal.ReportFormat-dyn g (b.vtable, b.value)).report_name b.value) c.args.name.now c.args.formats.now.items c.in-Some.format c.requires.fresh c.in-Some.ensures.found

pub returns-clause-made : goal.returns-clause-made
returns-clause-made g c = rw (← c.in-Some.ensures.found) (refl, c.in_ok-report_in.ensures.made)

pub returns-in_default-clause-unchanged : goal.returns-in_default-clause-unchanged
returns-in_default-clause-unchanged g c =
    λ absent. c.take_named.ensures.left ∙ nothing_named (λ b. (goal.ReportFormat-dyn g (b.vtable, b.value)).report_name b.value) c.args.name.now c.args.formats.now.items (sym c.in_default.ensures.found)
