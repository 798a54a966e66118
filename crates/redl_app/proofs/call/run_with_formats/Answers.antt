use Rattle.std.proofs.Common.{ap, map, refl}
use Rattle.std.specs.Prelude.{IfOk}
use Rattle.redl_page.specs.PageViews.{skin_view}
use Rattle.redl_app.specs.Answers.{Answers}
use Rattle.redl_app.specs.Formats.{row_formats, report_formats}
use Rattle.redl_app.proofs.BroughtLaws.{views-added, with_formats}
use Rattle.redl_app.proofs.call.run_with_formats.Goals as goal

pub returns-clause-answers : goal.returns-clause-answers
returns-clause-answers g c = with_formats
    (λ brought. IfOk c.run_with_reports.result (λ status. Answers g.F.Shelf.told g.F.Shelf.faults g.F.Shelf.asked c.args.shelf.now c.run_with_reports.new.shelf
    g.O.Sink.told g.O.Sink.faults c.args.out.now c.run_with_reports.new.out g.E.Sink.told g.E.Sink.faults c.args.err.now c.run_with_reports.new.err
    c.args.words.now brought status))
    _ row_formats report_formats (skin_view c.args.skin.now)
    c.run_with_reports.ensures.answers
    (views-added _ _ _ _ _ _ _
    (views-added _ _ _ _ _ _ _
    (views-added _ _ _ _ _ _ _
    (views-added _ _ _ _ _ _ _
    (views-added _ _ _ _ _ _ _ (ap (map _) c.new-formats.ensures.items)
    c.in_ok-add_format.ensures.added c.into_dyn_box.ensures.0 (λ _. refl))
    c.in_ok-add_format-2.ensures.added c.into_dyn_box-in_ok-new-4.ensures.0 (λ _. refl))
    c.in_ok-add_format-3.ensures.added c.into_dyn_box-in_ok-new-6.ensures.0 (λ _. refl))
    c.in_ok-add_format-4.ensures.added c.into_dyn_box-in_ok-new-8.ensures.0 (λ _. refl))
    c.in_ok-add_format-5.ensures.added c.into_dyn_box-in_ok-new-10.ensures.0 (λ _. refl))
