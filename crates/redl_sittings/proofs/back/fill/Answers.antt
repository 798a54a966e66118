use Rattle.std.proofs.Common.{◌+◌, ◌-◌, ◌<◌, length, map, arith}
use Rattle.std.proofs.lemmas.List.{length-map}
use Rattle.redl_sittings.proofs.BesideLaws.{parts-more}
use Rattle.redl_sittings.proofs.back.fill.Goals as goal

pub loop-done-preserved : goal.loop-done-preserved
loop-done-preserved c =
    let count = length c.args.seconds.now in
    let done = c.loop-done.done in
    let within : count - 1 - done < length (map (λ part. part.items) c.args.seconds.now) = omega (arith, c.loop-done-test.true, length-map c.args.seconds.now (λ part. part.items)) in
    parts-more (map (λ part. part.items) c.args.seconds.now) (map (λ part. part.items) c.args.firsts.now) c.args.back.now c.loop-done.back c.fill_at.new.back
    (count - done) (count - 1 - done) (count - (done + 1)) (omega (arith, c.loop-done-test.true)) (omega (arith, c.loop-done-test.true)) within c.loop-done.invariant c.fill_at.ensures
