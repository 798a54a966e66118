use Rattle.std.proofs.Common.{◌++◌, refl, ap, sym}
use Rattle.redl_tree.specs.Model.View.{tag_of}
use Rattle.redl_bare.specs.Units.{in_marks, start_texts, start_things}
use Rattle.redl_bare.specs.Inside.UnitLaws.{units_then, units_fail}
use Rattle.redl_bare.specs.Inside.Views.{marks_view}
use Rattle.redl_bare.proofs.walk.put_open_start.Goals as goal

pub returns-in_err-put_start_texts : goal.returns-in_err-put_start_texts
returns-in_err-put_start_texts g c = units_fail _ refl refl c.from_residual.ensures.1 c.in_err-put_start_texts.ensures

pub returns : goal.returns
returns g c =
    let tag = tag_of c.args.elem.now in
    let texts = in_marks (marks_view c.args.writer.now.marks) (start_texts tag) in
    units_then (ap (λ m. texts ++ start_things (marks_view m) tag) (sym c.in_ok-put_start_texts.ensures.after.marks)) c.in_ok-put_start_texts.ensures c.put_things.ensures
