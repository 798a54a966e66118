use Rattle.std.proofs.Common.{◌+◌, arith}
use Rattle.redl_select.proofs.InOrderLaws.{bounds_more, within_ended}
use Rattle.redl_select.proofs.in_order.numbers_within.Goals as goal

pub loop-bounds-preserved : goal.loop-bounds-preserved
loop-bounds-preserved c =
    rw c.max-next.ensures (bounds_more c.args.all.now c.loop-bounds.bounds-index _ c.loop-bounds.next (c.from-end.result + 1) c.loop-bounds.numbers.items c.add_between.new.numbers.items _ (omega arith) (omega (arith, c.from-end.ensures)) c.loop-bounds.invariant (rw (c.max.ensures, c.from.ensures) at c.in_ok-add_between.ensures))

pub returns : goal.returns
returns c = within_ended c.args.all.now c.loop-bounds.bounds-index _ _ _ c.loop-bounds-test.false c.loop-bounds.invariant
