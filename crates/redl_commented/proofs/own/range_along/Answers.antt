-- Comment by comment.
use Rattle.std.proofs.Common.{◌≡◌, ◌∙◌, ◌+◌, ◌-◌, ap, sym, arith, ℕ, Option, is_some}
use Rattle.redl_commented.specs.Ranges.{range_along}
use Rattle.redl_commented.specs.declared.range.Range.{Range}
use Rattle.redl_commented.proofs.AlongLaws.{along-later}
use Rattle.redl_commented.proofs.own.range_along.Goals as goal

pub loop-preserved : goal.loop-preserved
loop-preserved c =
    let own = c.args.own.now in
    let threads = c.args.threads.now in
    let left : ℕ = c.args.count - c.loop.counter in
    let less : c.args.count - (c.loop.counter + 1) ≡ left - 1 = omega arith in
    ap (λ (k : ℕ). range_along k own threads c.parent-next.result) less
    ∙ ap (range_along (left - 1) own threads) c.parent-next.ensures
    ∙ along-later left own threads c.loop.next c.in_ok-place.place (omega (arith, c.loop-test.true)) c.in_ok-place.was
    (sym (ap (λ (o : Option Range). is_some o) c.own_at-range.ensures) ∙ sym c.is_some.ensures ∙ c.if-is_some.false)
    ∙ c.loop.invariant
