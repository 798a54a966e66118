use Rattle.std.proofs.Common.{◌∙◌, sym}
use Rattle.redl_grammar.proofs.Names.{char_takes, loop_begins, loop_goes, loop_ends, loop_stops}
use Rattle.redl_markup.proofs.name.end_of_characters.Goals as goal

pub loop-c-init : goal.loop-c-init
loop-c-init c = loop_begins c.args.colons c.args.bytes.now

pub loop-c-smaller : goal.loop-c-smaller
loop-c-smaller c = (char_takes c.loop-c.rest.now (c.in-Some.c, c.in-Some.next.now) c.in-Some.ensures).2

pub loop-c-preserved : goal.loop-c-preserved
loop-c-preserved c = loop_goes c.args.colons c.loop-c.rest.now c.args.bytes.now (c.in-Some.c, c.in-Some.next.now) c.loop-c.invariant c.in-Some.ensures (sym c.may_follow.ensures ∙ c.if-not-may_follow.false)

pub returns-then-not-may_follow : goal.returns-then-not-may_follow
returns-then-not-may_follow c = loop_ends c.args.colons c.loop-c.rest.now c.args.bytes.now (c.in-Some.c, c.in-Some.next.now) c.loop-c.invariant c.in-Some.ensures (sym c.may_follow.ensures ∙ c.if-not-may_follow.true)

pub returns-in_default : goal.returns-in_default
returns-in_default c = loop_stops c.args.colons c.loop-c.rest.now c.args.bytes.now c.loop-c.invariant c.in_default.ensures
