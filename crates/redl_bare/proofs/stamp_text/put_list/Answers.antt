use Rattle.std.proofs.Common.{arith, ap, map}
use Rattle.std.proofs.lemmas.List.{drop_more, drop_all}
use Rattle.redl_io.proofs.Puts.{so_far_begins, so_far_goes_on, so_far_stops, so_far_ends}
use Rattle.redl_bare.specs.BareText.{marks_text}
use Rattle.redl_bare.specs.Inside.Views.{mark_view}
use Rattle.redl_bare.proofs.stamp_text.put_list.Goals as goal

pub loop-at-init : goal.loop-at-init
loop-at-init g c = so_far_begins _ _

pub returns-in_err-put_mark : goal.returns-in_err-put_mark
returns-in_err-put_mark g c =
    so_far_stops _ _ (ap (λ l. marks_text (map mark_view l)) (drop_more c.args.list.now c.loop-at.at _ (omega (arith, c.loop-at-test.true, c.loop-at.auto.at-end))))
    c.from_residual.ensures.1 c.loop-at.invariant c.in_err-put_mark.ensures

pub loop-at-preserved : goal.loop-at-preserved
loop-at-preserved g c =
    so_far_goes_on _ _ (ap (λ l. marks_text (map mark_view l)) (drop_more c.args.list.now c.loop-at.at _ (omega (arith, c.loop-at-test.true, c.loop-at.auto.at-end))))
    c.loop-at.invariant c.in_ok-put_mark.ensures

pub returns : goal.returns
returns g c =
    so_far_ends (ap (λ l. marks_text (map mark_view l)) (drop_all c.loop-at.at c.args.list.now (omega (arith, c.loop-at-test.false, c.loop-at.auto.at-end)))) c.loop-at.invariant
