use Rattle.std.proofs.Common.{ap, map, refl}
use Rattle.redl_page.specs.PageViews.{skin_view}
use Rattle.redl_app.specs.Answers.{Answers}
use Rattle.redl_app.specs.Formats.{report_formats}
use Rattle.redl_app.proofs.BroughtLaws.{views-added, with_reports}
use Rattle.redl_app.proofs.call.run_with_reports.Goals as goal

pub returns-clause-answers : goal.returns-clause-answers
returns-clause-answers g c = with_reports
    (λ brought. Answers g.F.Shelf.told g.F.Shelf.faults g.F.Shelf.asked c.args.shelf.now c.run_by.new.shelf g.O.Sink.told g.O.Sink.faults c.args.out.now c.run_by.new.out
    g.E.Sink.told g.E.Sink.faults c.args.err.now c.run_by.new.err c.args.words.now brought c.run_by.result)
    _ _ report_formats (skin_view c.args.showing.skin)
    (record {
      status = c.run_by.ensures.status;
      usage = c.run_by.ensures.usage;
      only_usage = c.run_by.ensures.only_usage;
      read = c.run_by.ensures.read;
      write = c.run_by.ensures.write;
      asked = c.run_by.ensures.asked;
      unasked = c.run_by.ensures.unasked;
      shelf_stands = c.run_by.ensures.shelf_stands;
      out_stands = c.run_by.ensures.out_stands;
      same_files = c.run_by.ensures.same_files;
      bytes = c.run_by.ensures.bytes;
      left = c.run_by.ensures.left;
      resumes = c.run_by.ensures.resumes;
      untouched = c.run_by.ensures.untouched;
      lines = c.run_by.ensures.lines;
    })
    (views-added _ _ _ _ _ _ _
    (views-added _ _ _ _ _ _ _
    (views-added _ _ _ _ _ _ _ (ap (map _) c.new-reports.ensures.items)
    c.in_ok-add_report_format.ensures.added c.into_dyn_box.ensures.0 (λ _. refl))
    c.in_ok-add_report_format-2.ensures.added c.into_dyn_box-in_ok-new-4.ensures.0 (λ _. refl))
    c.in_ok-add_report_format-3.ensures.added c.into_dyn_box-in_ok-new-6.ensures.0 (λ _. refl))
