-- From the last member to the first.
use Rattle.std.proofs.Common.{◌≡◌, ◌+◌, ◌-◌, ◌<◌, ◌∙◌, ℕ, ap, drop, get_or, length, arith}
use Rattle.redl_places.specs.Places.{place_among}
use Rattle.redl_places.specs.Views.{place_at}
use Rattle.redl_places.proofs.PlaceLaws.{one_before}
use Rattle.redl_places.proofs.places.Places.among.Goals as goal

pub loop-after-preserved : goal.loop-after-preserved
loop-after-preserved c = λ v.
    let members = c.args.members.now in
    let after = c.loop-after.after in
    let member = c.from_end-member.result in
    let inside : after < length members = omega (arith, c.loop-after-test.true) in
    let i : ℕ = length members - (after + 1) in
    let same : length members - 1 - after ≡ i = omega (arith, inside) in
    let next : length members - after ≡ i + 1 = omega (arith, inside) in
    one_before members i v member (place_at c.loop-after.places) (place_at c.set.new.self v) (omega (arith, inside))
    (c.from_end-member.ensures ∙ ap (λ (k : ℕ). get_or members k member) same)
    (c.loop-after.invariant v ∙ ap (λ (k : ℕ). place_among v (drop k members)) next)
    (c.in_ok-set.ensures v)
