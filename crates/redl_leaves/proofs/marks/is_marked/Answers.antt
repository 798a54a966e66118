use Rattle.std.proofs.Common.{true, false, sym, ap, ◌∙◌, arith}
use Rattle.redl_leaves.proofs.MarkLaws.{step, mark-in_front}
use Rattle.redl_leaves.specs.Inside.Marks.{is_marked_para}
use Rattle.redl_tree.specs.Leaves.Slots.{has_mark}
use Rattle.redl_tree.proofs.Model.Laws.{nodes_end}
use Rattle.redl_leaves.proofs.marks.is_marked.Goals as goal

pub loop-kid-preserved : goal.loop-kid-preserved
loop-kid-preserved c =
    sym (step has_mark is_marked_para mark-in_front c.args.kids.now c.loop-kid.kid-index c.kid-item.result false (omega arith) c.kid-item.is (sym c.is_marked_para.ensures ∙ c.if-is_marked_para.false))
    ∙ c.loop-kid.invariant

pub returns-then-is_marked_para : goal.returns-then-is_marked_para
returns-then-is_marked_para c =
    sym (step has_mark is_marked_para mark-in_front c.args.kids.now c.loop-kid.kid-index c.kid-item.result true (omega arith) c.kid-item.is (sym c.is_marked_para.ensures ∙ c.if-is_marked_para.true))
    ∙ c.loop-kid.invariant

pub returns : goal.returns
returns c = sym (ap has_mark (nodes_end c.args.kids.now c.loop-kid.kid-index (omega arith))) ∙ c.loop-kid.invariant
