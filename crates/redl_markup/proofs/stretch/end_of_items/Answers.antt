use Rattle.std.proofs.Common.{sym, ◌∙◌}
use Rattle.redl_grammar.proofs.Stretches.{loop_begins, loop_refuses, loop_ends, loop_fails, loop_goes, loop_shrinks}
use Rattle.redl_markup.proofs.stretch.end_of_items.Goals as goal

pub loop-next-init : goal.loop-next-init
loop-next-init c = loop_begins c.args.place c.args.bytes.now

pub returns-then-not-is_run : goal.returns-then-not-is_run
returns-then-not-is_run c =
    loop_refuses c.args.place c.loop-next.rest.now c.far_until.result.0.now c.args.bytes.now c.loop-next.invariant c.far_until.ensures.front (sym c.is_run.ensures ∙ c.if-not-is_run.true)

pub returns-then-not-begins_item : goal.returns-then-not-begins_item
returns-then-not-begins_item c =
    loop_ends c.args.place c.loop-next.rest.now c.far_until.result.0.now c.far_until.result.1.now c.args.bytes.now c.loop-next.invariant c.far_until.ensures.front c.far_until.ensures.rest (sym c.is_run.ensures ∙ c.if-not-is_run.false) (sym c.begins_item.ensures ∙ c.if-not-begins_item.true)

pub returns-in_err-rest : goal.returns-in_err-rest
returns-in_err-rest c = rw c.from_residual.ensures (
    loop_fails c.args.place c.loop-next.rest.now c.far_until.result.0.now c.far_until.result.1.now c.args.bytes.now c.loop-next.invariant c.far_until.ensures.front c.far_until.ensures.rest (sym c.is_run.ensures ∙ c.if-not-is_run.false) (sym c.begins_item.ensures ∙ c.if-not-begins_item.false) c.in_err-rest.ensures)

pub loop-next-smaller : goal.loop-next-smaller
loop-next-smaller c = loop_shrinks c.args.place c.loop-next.rest.now c.far_until.result.1.now c.in_ok-rest.rest.now c.far_until.ensures.rest c.in_ok-rest.ensures

pub loop-next-preserved : goal.loop-next-preserved
loop-next-preserved c =
    loop_goes c.args.place c.loop-next.rest.now c.far_until.result.0.now c.far_until.result.1.now c.in_ok-rest.rest.now c.args.bytes.now c.loop-next.invariant c.far_until.ensures.front c.far_until.ensures.rest (sym c.is_run.ensures ∙ c.if-not-is_run.false) (sym c.begins_item.ensures ∙ c.if-not-begins_item.false) c.in_ok-rest.ensures
