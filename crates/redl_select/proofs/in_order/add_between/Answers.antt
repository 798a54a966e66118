-- One number more, and the last one.
use Rattle.std.proofs.Common.{◌≡◌, ◌∙◌, ◌++◌, ◌-◌, ℕ, sym, ap, arith, append-nil}
use Rattle.std.specs.List.{range_with_len}
use Rattle.redl_select.proofs.InOrderLaws.{number_more}
use Rattle.redl_select.proofs.in_order.add_between.Goals as goal

pub loop-number-init : goal.loop-number-init
loop-number-init c =
    let none : 0 ≡ c.args.first - c.args.first = omega arith in
    (sym (append-nil c.args.numbers.now.items) ∙ ap (λ (n : ℕ). c.args.numbers.now.items ++ range_with_len c.args.first n) none, omega arith)

pub loop-number-preserved : goal.loop-number-preserved
loop-number-preserved c =
    (number_more _ _ _ c.args.first c.loop-number.number c.loop-number.auto.number c.loop-number.invariant.0 c.in_ok-push.ensures.items, omega arith)

pub returns : goal.returns
returns c =
    let first : ℕ = c.args.first in
    let size : c.loop-number.number - first ≡ c.args.end - first = omega (arith, c.loop-number-test.false, c.loop-number.auto.number, c.loop-number.invariant.1) in
    c.loop-number.invariant.0 ∙ ap (λ (n : ℕ). c.args.numbers.now.items ++ range_with_len first n) size
