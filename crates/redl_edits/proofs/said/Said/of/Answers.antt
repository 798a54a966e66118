use Rattle.std.proofs.Common.{◌≡◌, ◌≤◌, ◌<◌, ◌+◌, ◌-◌, ◌∙◌, ℕ, suc, ap, sym, subst, arith, length, set}
use Rattle.std.specs.Prelude.{replicate}
use Rattle.redl_edits.proofs.SaidLaws.{Finding, Finding-all, Finding-more, Finding-none, Finding-skip}
use Rattle.redl_edits.specs.declared.formats.Format.{Format}
use Rattle.redl_edits.proofs.said.Said.of.Goals as goal

pub loop-place-init : goal.loop-place-init
loop-place-init c =
    let many : length c.args.formats.items ≡ c.len-place.result = omega (arith, c.len-place.ensures) in
    let same : c.in_ok-places.places.items ≡ replicate {A = ℕ} (c.args.last + 1) (length c.args.formats.items) =
    c.in_ok-places.ensures.items_if_clones_equal (λ y same. same) ∙ ap (replicate {A = ℕ} (c.args.last + 1)) (omega (arith, many)) in
    subst (Finding c.args.formats.items c.in_ok-places.places.items (c.args.last + 1)) many (Finding-none c.args.formats.items c.in_ok-places.places.items (c.args.last + 1) same)

pub loop-place-preserved : goal.loop-place-preserved
loop-place-preserved c =
    let more : c.loop-place.place ≡ suc (c.loop-place.place - 1) = omega (arith, c.loop-place-test.true) in
    Finding-skip c.args.formats.items c.loop-place.places.items (c.args.last + 1) c.loop-place.place (c.loop-place.place - 1) c.index.result.now c.loop-place.invariant more
    (subst (λ (f : Format). c.args.last + 1 ≤ f.revision) c.index.ensures c.if-number-count.false)

pub loop-place-preserved-then-number-count : goal.loop-place-preserved-then-number-count
loop-place-preserved-then-number-count c =
    let more : c.loop-place.place ≡ suc (c.loop-place.place - 1) = omega (arith, c.loop-place-test.true) in
    subst (λ (f : Format). Finding c.args.formats.items (set c.loop-place.places.items f.revision (c.loop-place.place - 1)) (c.args.last + 1) (c.loop-place.place - 1)) (sym c.index.ensures)
    (Finding-more c.args.formats.items c.loop-place.places.items (c.args.last + 1) c.loop-place.place (c.loop-place.place - 1) c.index.result.now c.loop-place.invariant more
    (subst (λ (f : Format). f.revision < c.args.last + 1) c.index.ensures c.if-number-count.true))

pub returns-clause-found : goal.returns-clause-found
returns-clause-found c = Finding-all _ _ _ c.loop-place.invariant (omega (arith, c.loop-place-test.false))
