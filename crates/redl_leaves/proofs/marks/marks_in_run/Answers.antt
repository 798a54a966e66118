use Rattle.std.proofs.Common.{true, false, sym, ap, ◌∙◌, arith}
use Rattle.redl_leaves.proofs.MarkLaws.{step, run-in_front}
use Rattle.redl_leaves.specs.Inside.Marks.{is_mark_item}
use Rattle.redl_leaves.specs.Inside.Marks.{has_run_mark}
use Rattle.redl_tree.proofs.Model.Laws.{nodes_end}
use Rattle.redl_leaves.proofs.marks.marks_in_run.Goals as goal

pub loop-kid-preserved : goal.loop-kid-preserved
loop-kid-preserved c =
    sym (step has_run_mark is_mark_item run-in_front c.args.kids.now c.loop-kid.kid-index c.kid-item.result false (omega arith) c.kid-item.is (sym c.is_mark.ensures ∙ c.if-is_mark.false))
    ∙ c.loop-kid.invariant

pub returns-then-is_mark : goal.returns-then-is_mark
returns-then-is_mark c =
    sym (step has_run_mark is_mark_item run-in_front c.args.kids.now c.loop-kid.kid-index c.kid-item.result true (omega arith) c.kid-item.is (sym c.is_mark.ensures ∙ c.if-is_mark.true))
    ∙ c.loop-kid.invariant

pub returns : goal.returns
returns c = sym (ap has_run_mark (nodes_end c.args.kids.now c.loop-kid.kid-index (omega arith))) ∙ c.loop-kid.invariant
