use Rattle.std.proofs.Common.{◌≤◌, ◌<◌, ◌-◌, arith, length, get_or, subst}
use Rattle.std.proofs.lemmas.List.{get_or_default}
use Rattle.redl_spans.specs.declared.span.Span.{Span}
use Rattle.redl_edits.proofs.BesideLaws.{none}
use Rattle.redl_edits.proofs.dark.end_of.Goals as goal

pub returns-clause-spans : goal.returns-clause-spans
returns-clause-spans c = λ k d bound.
    let last : length c.args.spans.now - 1 < length c.args.spans.now = omega (arith, bound) in
    let low : k ≤ length c.args.spans.now - 1 = omega (arith, bound) in
    let order : (get_or c.args.spans.now k d).to ≤ (get_or c.args.spans.now (length c.args.spans.now - 1) d).to = c.requires k (length c.args.spans.now - 1) d low last in
    let order' = subst (λ (span : Span). (get_or c.args.spans.now k d).to ≤ span.to) (get_or_default c.args.spans.now (length c.args.spans.now - 1) d none last) order in
    omega (arith, order', c.max.ensures)
