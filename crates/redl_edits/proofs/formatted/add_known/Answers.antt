use Rattle.std.proofs.Common.{◌≡◌, ◌-◌, suc, arith}
use Rattle.redl_edits.specs.Inside.Known.{facts_with}
use Rattle.redl_edits.proofs.FormattedLaws.{Pairs-more}
use Rattle.redl_edits.proofs.formatted.add_known.Goals as goal

pub loop-place-preserved : goal.loop-place-preserved
loop-place-preserved c =
    let facts = (facts_with c.args.known.index.now c.args.known.spans.now c.args.known.passed.now c.args.known.said.now.formats.items) in
    let more : c.loop-place.place ≡ suc (c.loop-place.place - 1) = omega (arith, c.loop-place-test.true) in (
      c.in_ok-add_place.ensures.seen,
      Pairs-more facts c.args.pairs.now.items c.loop-place.pairs.items c.add_place.new.pairs.items c.loop-place.place (c.loop-place.place - 1)
          c.loop-place.invariant.1 more c.in_ok-add_place.ensures.pairs,
    )
