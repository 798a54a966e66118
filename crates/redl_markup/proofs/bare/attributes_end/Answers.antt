use Rattle.std.proofs.Common.{sym, ◌∙◌}
use Rattle.redl_markup.specs.Views.{attribute_view}
use Rattle.redl_grammar.proofs.Attributes.{first_behind, first_shorter}
use Rattle.redl_markup.proofs.BareLaws.{past_begins, past_ends, past_fails, past_goes}
use Rattle.redl_markup.proofs.bare.attributes_end.Goals as goal

pub loop-gap-init : goal.loop-gap-init
loop-gap-init c = past_begins c.args.bytes.now

pub returns-then-is_at_end : goal.returns-then-is_at_end
returns-then-is_at_end c =
    past_ends c.loop-gap.rest.now c.spaces.result.1.now c.args.bytes.now c.loop-gap.invariant c.spaces.ensures.rest (sym c.is_at_end.ensures ∙ c.if-is_at_end.true)

pub returns-in_default : goal.returns-in_default
returns-in_default c =
    past_fails c.loop-gap.rest.now c.spaces.result.1.now c.args.bytes.now c.loop-gap.invariant c.spaces.ensures.rest (sym c.is_at_end.ensures ∙ c.if-is_at_end.false)
    (first_behind c.loop-gap.rest.now c.spaces.result.0.now c.spaces.result.1.now _ c.spaces.ensures.front c.spaces.ensures.rest c.in_default.ensures)

pub loop-gap-smaller : goal.loop-gap-smaller
loop-gap-smaller c =
    first_shorter c.loop-gap.rest.now (attribute_view c.in-Some.attribute, c.in-Some.next.now)
    (first_behind c.loop-gap.rest.now c.spaces.result.0.now c.spaces.result.1.now _ c.spaces.ensures.front c.spaces.ensures.rest c.in-Some.ensures)

pub loop-gap-preserved : goal.loop-gap-preserved
loop-gap-preserved c =
    past_goes c.loop-gap.rest.now c.spaces.result.1.now c.args.bytes.now (attribute_view c.in-Some.attribute, c.in-Some.next.now)
    c.loop-gap.invariant c.spaces.ensures.rest (sym c.is_at_end.ensures ∙ c.if-is_at_end.false)
    (first_behind c.loop-gap.rest.now c.spaces.result.0.now c.spaces.result.1.now _ c.spaces.ensures.front c.spaces.ensures.rest c.in-Some.ensures)
