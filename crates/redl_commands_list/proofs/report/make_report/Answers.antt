-- The format at the place is open and has no line.
use Rattle.std.proofs.Common.{◌≡◌, ◌∙◌, [], false, Some, ap, refl, subst, sym}
use Rattle.std.proofs.lemmas.Option.{slice_get-get_or}
use Rattle.redl_commands_list.proofs.report.make_report.Goals as goal

pub report_in-requires-clause-fresh : goal.report_in-requires-clause-fresh
report_in-requires-clause-fresh g c =
    subst (λ b. ((goal.ReportFormat-dyn g (b.vtable, b.value)).is_ended b.value ≡ false) × ((goal.ReportFormat-dyn g (b.vtable, b.value)).lines_so_far b.value ≡ [])) (sym c.remove-format.ensures.value)
    (c.requires.fresh c.args.place c.remove-format.result c.requires.within)

pub returns-clause-made : goal.returns-clause-made
returns-clause-made g c =
    let is = slice_get-get_or c.args.reports.now.items c.args.place c.remove-format.result c.requires.within ∙ ap Some (sym c.remove-format.ensures.value) in
    rw is (refl, c.in_ok-report_in.ensures.made)
