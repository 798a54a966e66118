use Rattle.std.proofs.Common.{◌∙◌, ap}
use Rattle.redl_tree.specs.Model.View.{tag_of, kids_of}
use Rattle.redl_bare.specs.Marks.{own_mark, with_own}
use Rattle.redl_bare.specs.Inside.Views.{marks_view}
use Rattle.redl_bare.proofs.marks.enter.Goals as goal

pub returns-in-Some-clause-marks : goal.returns-in-Some-clause-marks
returns-in-Some-clause-marks c =
    c.add.ensures.marks
    ∙ ap (with_own (marks_view c.args.marks.now)) (c.in-Some.ensures ∙ ap (λ k. own_mark k (tag_of c.args.elem.now) (kids_of c.args.elem.now)) c.kind.ensures)

pub returns-in-None-clause-marks : goal.returns-in-None-clause-marks
returns-in-None-clause-marks c =
    ap (with_own (marks_view c.args.marks.now)) (c.in-None.ensures ∙ ap (λ k. own_mark k (tag_of c.args.elem.now) (kids_of c.args.elem.now)) c.kind.ensures)
