use Rattle.std.proofs.Common.{◌∙◌, arith, map, sym}
use Rattle.redl_marks.specs.Views.{mark_view}
use Rattle.redl_marks.proofs.MarkLaws.{at_view, place_here, place_there, place_later}
use Rattle.redl_marks.proofs.marks.place_among.Goals as goal

pub returns-in-Less-clause-place : goal.returns-in-Less-clause-place
returns-in-Less-clause-place c =
    place_here (map mark_view c.args.marks.now) c.loop-at.at _ (mark_view c.args.mark)
    (at_view c.args.marks.now c.loop-at.at _ (omega (arith, c.loop-at-test.true, c.loop-at.auto.at-end))) (sym c.order.ensures ∙ c.in-Less.is) c.loop-at.invariant

pub returns-in-Equal-clause-place : goal.returns-in-Equal-clause-place
returns-in-Equal-clause-place c =
    place_there (map mark_view c.args.marks.now) c.loop-at.at _ (mark_view c.args.mark)
    (at_view c.args.marks.now c.loop-at.at _ (omega (arith, c.loop-at-test.true, c.loop-at.auto.at-end))) (sym c.order.ensures ∙ c.in-Equal.is) c.loop-at.invariant

pub loop-at-preserved : goal.loop-at-preserved
loop-at-preserved c =
    place_later (map mark_view c.args.marks.now) c.loop-at.at _ (mark_view c.args.mark)
    (at_view c.args.marks.now c.loop-at.at _ (omega (arith, c.loop-at-test.true, c.loop-at.auto.at-end))) (sym c.order.ensures ∙ c.in-Greater.is) c.loop-at.invariant
