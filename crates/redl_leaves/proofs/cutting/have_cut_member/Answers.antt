use Rattle.std.proofs.Common.{true, false, sym, ap, ◌∙◌, arith}
use Rattle.redl_leaves.proofs.CutSlotLaws.{step, member-before}
use Rattle.redl_leaves.proofs.ViewLaws.{states_end}
use Rattle.redl_leaves.specs.Inside.Cuts.{member_slots, member_in}
use Rattle.redl_leaves.proofs.cutting.have_cut_member.Goals as goal

pub loop-slot-preserved : goal.loop-slot-preserved
loop-slot-preserved c =
    sym (step (member_slots c.args.owner c.args.says.now) (member_in c.args.owner c.args.says.now) (member-before c.args.owner c.args.says.now) c.args.slots.now c.loop-slot.slot-index c.slot-item.result false (omega arith) c.slot-item.is
    (sym c.has_member_in.ensures ∙ c.if-has_member_in.false))
    ∙ c.loop-slot.invariant

pub returns-then-has_member_in : goal.returns-then-has_member_in
returns-then-has_member_in c =
    sym (step (member_slots c.args.owner c.args.says.now) (member_in c.args.owner c.args.says.now) (member-before c.args.owner c.args.says.now) c.args.slots.now c.loop-slot.slot-index c.slot-item.result true (omega arith) c.slot-item.is
    (sym c.has_member_in.ensures ∙ c.if-has_member_in.true))
    ∙ c.loop-slot.invariant

pub returns : goal.returns
returns c = sym (ap (member_slots c.args.owner c.args.says.now) (states_end c.args.slots.now c.loop-slot.slot-index (omega arith))) ∙ c.loop-slot.invariant
