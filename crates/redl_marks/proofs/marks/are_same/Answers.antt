use Rattle.std.proofs.Common.{◌∙◌, ◌+◌, ◌&&◌, arith, ap, drop, map, sym}
use Rattle.redl_marks.specs.Marks.{same_marks}
use Rattle.redl_marks.specs.Views.{mark_view}
use Rattle.redl_marks.proofs.MarkLaws.{at_view, same_first, not_as_long}
use Rattle.redl_marks.proofs.marks.are_same.Goals as goal

pub returns-then-marks-others : goal.returns-then-marks-others
returns-then-marks-others c = sym (not_as_long c.args.marks.now c.args.others.now c.if-marks-others.true)

pub returns-then-not-same : goal.returns-then-not-same
returns-then-not-same c =
    let marks = map mark_view c.args.marks.now in
    let others = map mark_view c.args.others.now in
    let at = c.loop-at.at in
    sym (sym c.loop-at.invariant
    ∙ same_first marks others at _ _ (at_view c.args.marks.now at _ (omega (arith, c.loop-at-test.true, c.loop-at.auto.at-end)))
    (at_view c.args.others.now at _ (omega (arith, c.loop-at-test.true, c.loop-at.auto.at-end, c.if-marks-others.false)))
    ∙ ap (λ b. b && same_marks (drop (at + 1) marks) (drop (at + 1) others)) (sym c.same.ensures ∙ c.if-not-same.true))

pub loop-at-preserved : goal.loop-at-preserved
loop-at-preserved c =
    let marks = map mark_view c.args.marks.now in
    let others = map mark_view c.args.others.now in
    let at = c.loop-at.at in
    sym (same_first marks others at _ _ (at_view c.args.marks.now at _ (omega (arith, c.loop-at-test.true, c.loop-at.auto.at-end)))
    (at_view c.args.others.now at _ (omega (arith, c.loop-at-test.true, c.loop-at.auto.at-end, c.if-marks-others.false)))
    ∙ ap (λ b. b && same_marks (drop (at + 1) marks) (drop (at + 1) others)) (sym c.same.ensures ∙ c.if-not-same.false))
    ∙ c.loop-at.invariant
