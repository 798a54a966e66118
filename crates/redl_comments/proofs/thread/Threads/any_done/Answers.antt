-- Comment by comment.
use Rattle.std.proofs.Common.{◌≡◌, ◌∙◌, ◌+◌, ◌-◌, ap, sym, arith, ℕ}
use Rattle.redl_comments.specs.Threads.{any_done}
use Rattle.redl_comments.proofs.ThreadLaws.{done-later}
use Rattle.redl_comments.proofs.thread.Threads.any_done.Goals as goal

pub loop-preserved : goal.loop-preserved
loop-preserved c =
    let threads = c.args.self.now in
    let left : ℕ = c.args.count - c.loop.counter in
    let less : c.args.count - (c.loop.counter + 1) ≡ left - 1 = omega arith in
    ap (λ (k : ℕ). any_done k threads c.parent-next.result) less
    ∙ ap (any_done (left - 1) threads) c.parent-next.ensures
    ∙ done-later left threads c.loop.next c.in-Some.place (omega (arith, c.loop-test.true)) c.in-Some.is (sym c.done_at.ensures ∙ c.if-done_at.false)
    ∙ c.loop.invariant
