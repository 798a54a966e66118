use Rattle.std.proofs.Common.{sym, ◌∙◌}
use Rattle.redl_terminal.specs.Masks.{is_plain}
use Rattle.redl_terminal.proofs.MaskLaws.{masked-plain, after_shorter}
use Rattle.redl_terminal.proofs.steps.next_masked.Goals as goal

pub returns-then-is_plain-clause-masked : goal.returns-then-is_plain-clause-masked
returns-then-is_plain-clause-masked c =
    rw (c.plain_step.ensures.piece, c.plain_step.ensures.rest) (masked-plain c.args.extent c.args.bytes.now)

pub returns-then-is_plain-clause-shorter : goal.returns-then-is_plain-clause-shorter
returns-then-is_plain-clause-shorter c =
    rw c.plain_step.ensures.rest
    (after_shorter (is_plain c.args.extent) c.args.bytes.now c.in_ok-first.first.now c.in_ok-first.rest.now c.in_ok-first.ensures.cases.0 (sym c.is_plain.ensures ∙ c.if-is_plain.true))
