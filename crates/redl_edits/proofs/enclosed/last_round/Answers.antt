use Rattle.std.proofs.Common.{◌≡◌, ◌<◌, ◌-◌, suc, length, ◌∙◌, ap, sym, arith}
use Rattle.redl_edits.specs.Enclosed.{round_upto}
use Rattle.redl_edits.proofs.RoundLaws.{round_upto-miss}
use Rattle.redl_edits.proofs.enclosed.last_round.Goals as goal

pub loop-earlier-preserved : goal.loop-earlier-preserved
loop-earlier-preserved c =
    let more : c.loop-earlier.earlier ≡ suc (c.loop-earlier.earlier - 1) = omega (arith, c.loop-earlier-test.true) in
    let within : c.loop-earlier.earlier - 1 < length c.args.spans.now = omega (arith, c.loop-earlier-test.true, c.loop-earlier.auto.earlier) in
    c.loop-earlier.invariant ∙ ap (round_upto c.args.index.now c.args.spans.now c.args.change c.args.change.from) more
    ∙ round_upto-miss c.args.index.now c.args.change c.args.spans.now c.args.change.from (c.loop-earlier.earlier - 1) within (sym c.if-is_round.ensures)
