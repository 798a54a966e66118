use Rattle.std.proofs.Common.{◌∙◌, ◌+◌, ◌*◌, ap, min, arith}
use Rattle.redl_markup.specs.declared.reference.TheConstants.{BEYOND}
use Rattle.redl_markup.proofs.Numbers.{number_step}
use Rattle.redl_markup.proofs.reference.number.Goals as goal

pub loop-first-preserved : goal.loop-first-preserved
loop-first-preserved c =
    let number = c.loop-first.number in
    let step = c.min-number.ensures ∙ ap (λ d. min (number * c.args.base + d) BEYOND) c.digit.ensures in
    (omega arith, number_step c.args.base number c.in-Some.first.now c.min-number.result c.loop-first.rest.now c.in-Some.next.now c.requires.positive c.in-Some.ensures.cases.0 step ∙ c.loop-first.invariant.1)
