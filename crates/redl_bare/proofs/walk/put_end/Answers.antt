use Rattle.std.proofs.Common.{◌++◌, refl, sym, ap, ◌∙◌}
use Rattle.redl_tree.specs.Model.View.{tag_of}
use Rattle.redl_bare.specs.Units.{end_things, in_marks}
use Rattle.redl_bare.specs.Inside.Texts.{short_of}
use Rattle.redl_bare.specs.Inside.UnitLaws.{units_then, units_fail}
use Rattle.redl_bare.specs.Inside.Views.{marks_view}
use Rattle.redl_bare.proofs.walk.put_end.Goals as goal

pub returns-in_err-put_short : goal.returns-in_err-put_short
returns-in_err-put_short g c =
    let marks = marks_view c.args.writer.now.marks in
    units_fail _ (ap (λ texts. in_marks marks texts ++ end_things c.args.place marks (tag_of c.args.elem.now)) (sym c.end_of.ensures))
    refl c.from_residual.ensures.1 c.in_err-put_short.ensures

pub returns : goal.returns
returns g c =
    let tag = tag_of c.args.elem.now in
    let marks = marks_view c.args.writer.now.marks in
    units_then
    (ap (λ texts. in_marks marks texts ++ end_things c.args.place marks tag) (sym c.end_of.ensures)
    ∙ ap (λ m. in_marks marks (short_of c.end_of.result) ++ end_things c.args.place (marks_view m) tag) (sym c.in_ok-put_short.ensures.after.marks))
    c.in_ok-put_short.ensures c.put_end_things.ensures
