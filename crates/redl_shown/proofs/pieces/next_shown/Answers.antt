use Rattle.std.proofs.Common.{sym, ◌∙◌}
use Rattle.redl_shown.proofs.ShownLaws.{shown-plain, plain_shortens}
use Rattle.redl_shown.proofs.pieces.next_shown.Goals as goal

pub returns-then-is_plain-clause-shown : goal.returns-then-is_plain-clause-shown
returns-then-is_plain-clause-shown c =
    rw (c.plain_step.ensures.piece, c.plain_step.ensures.here, c.plain_step.ensures.rest)
    (shown-plain c.args.here c.args.bytes.now (sym c.is_in_characters.ensures ∙ c.if-is_in_characters.true))

pub returns-then-is_plain-clause-shorter : goal.returns-then-is_plain-clause-shorter
returns-then-is_plain-clause-shorter c =
    rw c.plain_step.ensures.rest
    (plain_shortens c.args.bytes.now c.in_ok-first.first.now c.in_ok-first.rest.now c.in_ok-first.ensures.cases.0 (sym c.is_plain.ensures ∙ c.if-is_plain.true))
