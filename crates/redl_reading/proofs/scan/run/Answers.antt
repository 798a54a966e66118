use Rattle.std.proofs.Common.{rules, ◌≡◌, ℕ, ◌<◌, Bool, true, false, length, get_or, ap, ◌∙◌, arith}
use Rattle.redl_reading.proofs.Runs.{front_told, after_told}
use Rattle.redl_reading.proofs.scan.run.Goals.{then-loop-n-test+else-passes, else-loop-n-test}
use Rattle.redl_reading.proofs.scan.run.Goals as goal

pub returns-clause-front : goal.returns-clause-front
returns-clause-front g c = λ test decides.
    c.split_at.ensures.front ∙ front_told test _ c.args.bytes.now c.loop-n.n decides c.loop-n.invariant.1 c.loop-n.invariant.2
    (elim c.loop-n-test.branch [
      | then-loop-n-test+else-passes w ↦ λ lt. (search rules, rw w.if-passes.false at w.passes.ensures)
      | else-loop-n-test w ↦ λ lt. absurd (omega arith)
    ])

pub returns-clause-rest : goal.returns-clause-rest
returns-clause-rest g c = λ test decides.
    c.split_at.ensures.back ∙ after_told test _ c.args.bytes.now c.loop-n.n decides c.loop-n.invariant.1 c.loop-n.invariant.2
    (elim c.loop-n-test.branch [
      | then-loop-n-test+else-passes w ↦ λ lt. (search rules, rw w.if-passes.false at w.passes.ensures)
      | else-loop-n-test w ↦ λ lt. absurd (omega arith)
    ])
