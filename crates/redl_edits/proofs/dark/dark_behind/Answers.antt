use Rattle.std.proofs.Common.{rules, ◌≡◌, ◌-◌, suc, arith}
use Rattle.redl_edits.proofs.DarkLaws.{Darkens-more, IsDark-past}
use Rattle.redl_edits.proofs.dark.dark_behind.Goals as goal

pub loop-place-init : goal.loop-place-init
loop-place-init c = record {
  size = search rules;
  few = omega arith;
  before = λ k d less bound. c.end_of-at.ensures.spans k d bound;
  now = IsDark-past c.args.passed.now c.end_of-at.result c.end_of-at.ensures.passed;
  found = λ k d from bound. absurd (omega (arith, from, bound));
}

pub loop-place-preserved : goal.loop-place-preserved
loop-place-preserved c =
    let more : c.loop-place.place ≡ suc (c.loop-place.place - 1) = omega (arith, c.loop-place-test.true) in
    Darkens-more c.args.passed.now c.args.spans.now c.loop-place.dark.items c.loop-place.place (c.loop-place.place - 1) c.loop-place.at c.loop-place.next
    c.dark_from-next.result c.loop-place.invariant more c.requires c.dark_from-next.ensures
