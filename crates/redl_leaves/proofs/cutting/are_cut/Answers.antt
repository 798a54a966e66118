use Rattle.std.proofs.Common.{true, false, sym, ap, ◌∙◌, arith}
use Rattle.redl_leaves.proofs.CutSlotLaws.{step, cut-before}
use Rattle.redl_leaves.proofs.ViewLaws.{states_end}
use Rattle.redl_leaves.specs.Inside.Cuts.{cut_slots, cut_in}
use Rattle.redl_leaves.proofs.cutting.are_cut.Goals as goal

pub loop-slot-preserved : goal.loop-slot-preserved
loop-slot-preserved c =
    sym (step (cut_slots c.args.owner c.args.says.now) (cut_in c.args.owner c.args.says.now) (cut-before c.args.owner c.args.says.now) c.args.slots.now c.loop-slot.slot-index c.slot-item.result false (omega arith) c.slot-item.is
    (sym c.cuts_in.ensures ∙ c.if-cuts_in.false))
    ∙ c.loop-slot.invariant

pub returns-then-cuts_in : goal.returns-then-cuts_in
returns-then-cuts_in c =
    sym (step (cut_slots c.args.owner c.args.says.now) (cut_in c.args.owner c.args.says.now) (cut-before c.args.owner c.args.says.now) c.args.slots.now c.loop-slot.slot-index c.slot-item.result true (omega arith) c.slot-item.is
    (sym c.cuts_in.ensures ∙ c.if-cuts_in.true))
    ∙ c.loop-slot.invariant

pub returns : goal.returns
returns c = sym (ap (cut_slots c.args.owner c.args.says.now) (states_end c.args.slots.now c.loop-slot.slot-index (omega arith))) ∙ c.loop-slot.invariant
