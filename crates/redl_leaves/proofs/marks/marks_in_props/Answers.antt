use Rattle.std.proofs.Common.{true, false, sym, ap, ◌∙◌, arith}
use Rattle.redl_leaves.proofs.MarkLaws.{step, para-in_front}
use Rattle.redl_leaves.specs.Inside.Marks.{is_marked_run}
use Rattle.redl_leaves.specs.Inside.Marks.{has_para_mark}
use Rattle.redl_tree.proofs.Model.Laws.{nodes_end}
use Rattle.redl_leaves.proofs.marks.marks_in_props.Goals as goal

pub loop-kid-preserved : goal.loop-kid-preserved
loop-kid-preserved c =
    sym (step has_para_mark is_marked_run para-in_front c.args.kids.now c.loop-kid.kid-index c.kid-item.result false (omega arith) c.kid-item.is (sym c.is_marked_run.ensures ∙ c.if-is_marked_run.false))
    ∙ c.loop-kid.invariant

pub returns-then-is_marked_run : goal.returns-then-is_marked_run
returns-then-is_marked_run c =
    sym (step has_para_mark is_marked_run para-in_front c.args.kids.now c.loop-kid.kid-index c.kid-item.result true (omega arith) c.kid-item.is (sym c.is_marked_run.ensures ∙ c.if-is_marked_run.true))
    ∙ c.loop-kid.invariant

pub returns : goal.returns
returns c = sym (ap has_para_mark (nodes_end c.args.kids.now c.loop-kid.kid-index (omega arith))) ∙ c.loop-kid.invariant
