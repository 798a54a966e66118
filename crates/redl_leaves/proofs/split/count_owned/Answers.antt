use Rattle.std.proofs.Common.{◌+◌, drop, ap, arith}
use Rattle.redl_leaves.proofs.SplitLaws.{owned-before}
use Rattle.redl_leaves.proofs.ViewLaws.{states_here, states_end}
use Rattle.redl_leaves.specs.Inside.Splits.{owned_at}
use Rattle.redl_leaves.specs.View.{view_of, states_of}
use Rattle.redl_leaves.proofs.split.count_owned.Goals as goal

pub loop-slot-preserved : goal.loop-slot-preserved
loop-slot-preserved c = λ few.
    let x = c.slot-item.result in
    let here = states_here c.args.slots.now c.loop-slot.slot-index x (omega arith) c.slot-item.is in
    let rest = states_of (drop (c.loop-slot.slot-index + 1) c.args.slots.now) in
    omega (arith, c.loop-slot.invariant few, ap (owned_at c.args.spot) here, owned-before c.args.spot (view_of x) rest, few, c.share.ensures, c.saturating_add-owned.ensures)

pub returns : goal.returns
returns c = λ few.
    omega (arith, c.loop-slot.invariant few, ap (owned_at c.args.spot) (states_end c.args.slots.now c.loop-slot.slot-index (omega arith)))
