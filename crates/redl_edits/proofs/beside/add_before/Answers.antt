use Rattle.std.proofs.Common.{◌≡◌, ◌≤◌, ◌<◌, ◌-◌, suc, length, get_or, ap, arith}
use Rattle.std.proofs.lemmas.Option.{slice_get-get_or}
use Rattle.redl_edits.specs.Beside.{pairs_before}
use Rattle.redl_edits.proofs.BesideLaws.{Leaves-all, Leaves-more, none, pairs_before-past}
use Rattle.redl_edits.proofs.beside.add_before.Goals as goal

pub loop-earlier-preserved : goal.loop-earlier-preserved
loop-earlier-preserved c =
    let more : c.loop-earlier.earlier ≡ suc (c.loop-earlier.earlier - 1) = omega (arith, c.loop-earlier-test.true) in
    let within : c.loop-earlier.earlier - 1 < length c.args.spans.now = omega (arith, c.loop-earlier-test.true, c.loop-earlier.invariant.bound, c.requires.bound) in
    Leaves-more c.args.index.now c.args.spans.now (get_or c.args.spans.now c.args.place none) c.args.place c.args.pairs.now.items c.loop-earlier.pairs.items
    c.add_pair.new.pairs.items c.loop-earlier.earlier (c.loop-earlier.earlier - 1) c.loop-earlier.invariant more within c.in_ok-add_pair.ensures

pub returns-after-loop-earlier : goal.returns-after-loop-earlier
returns-after-loop-earlier c =
    let over : c.loop-earlier.earlier ≡ 0 = omega (arith, c.loop-earlier-test.false) in
    Leaves-all c.args.index.now c.args.spans.now (get_or c.args.spans.now c.args.place none) c.args.place c.args.pairs.now.items c.loop-earlier.pairs.items
    c.loop-earlier.earlier c.loop-earlier.invariant (ap (pairs_before c.args.index.now c.args.spans.now (get_or c.args.spans.now c.args.place none)) over)
    (slice_get-get_or c.args.spans.now c.args.place none c.requires.bound)

pub returns-then-two-one : goal.returns-then-two-one
returns-then-two-one c =
    let within : c.loop-earlier.earlier - 1 < length c.args.spans.now = omega (arith, c.loop-earlier-test.true, c.loop-earlier.invariant.bound, c.requires.bound) in
    let few : c.loop-earlier.earlier ≤ suc (c.loop-earlier.earlier - 1) = omega (arith, c.loop-earlier-test.true) in
    Leaves-all c.args.index.now c.args.spans.now (get_or c.args.spans.now c.args.place none) c.args.place c.args.pairs.now.items c.loop-earlier.pairs.items
    c.loop-earlier.earlier c.loop-earlier.invariant
    (pairs_before-past c.args.index.now c.args.spans.now (get_or c.args.spans.now c.args.place none) c.requires.order (c.loop-earlier.earlier - 1) within
    c.if-two-one.true c.loop-earlier.earlier few)
    (slice_get-get_or c.args.spans.now c.args.place none c.requires.bound)
