use Rattle.std.proofs.Common.{◌≡◌, ◌≤◌, ◌<◌, ◌+◌, ◌-◌, ◌++◌, ◌∷◌, [], ℕ, suc, length, get_or, subst, sym, ◌∙◌, ap, arith}
use Rattle.std.proofs.lemmas.List.{get_or_default}
use Rattle.redl_spans.specs.declared.span.Span.{Span}
use Rattle.redl_edits.specs.Inside.Rounds.{IsStack}
use Rattle.redl_edits.proofs.BesideLaws.{none}
use Rattle.redl_edits.proofs.StackLaws.{Finds-more, Stacks, Stacks-more, kept-stack}
use Rattle.redl_edits.proofs.enclosed.add_enclosed.Goals as goal

pub add_pair-requires-clause-stack : goal.add_pair-requires-clause-stack
add_pair-requires-clause-stack c = λ d.
    let more : c.loop-place.place ≡ suc (c.loop-place.place - 1) = omega (arith, c.loop-place-test.true) in
    let within : c.loop-place.place - 1 < length c.args.spans.now = omega (arith, c.loop-place-test.true, c.loop-place.auto.place) in
    let fits = subst (λ n. c.kept_count-count.result ≤ n) (ap length c.deref.ensures.value) c.kept_count-count.ensures.bound in
    let past = λ (k : ℕ) (e : Span) (from : c.kept_count-count.result ≤ k) (bound : k < length c.loop-place.later.items).
    subst (λ (xs : _). (get_or c.args.spans.now (c.loop-place.place - 1) none).to ≤ (get_or xs k e).from) c.deref.ensures.value
    (c.kept_count-count.ensures.past k e from (subst (λ n. k < n) (sym (ap length c.deref.ensures.value)) bound)) in
    subst (λ (span : Span). IsStack c.args.index.now c.args.spans.now c.deref-in-loop-place.result.now (c.loop-place.place - 1 + 1) span.to)
    (get_or_default c.args.spans.now (c.loop-place.place - 1) none d within)
    (subst (λ xs. IsStack c.args.index.now c.args.spans.now xs (c.loop-place.place - 1 + 1) (get_or c.args.spans.now (c.loop-place.place - 1) none).to)
    (sym (c.deref-in-loop-place.ensures.value ∙ c.truncate.ensures.items))
    (kept-stack c.args.index.now c.args.spans.now c.loop-place.later.items c.loop-place.place (c.loop-place.place - 1) c.kept_count-count.result c.loop-place.invariant.0 more c.requires fits past
    (get_or c.args.spans.now (c.loop-place.place - 1) none).to (omega arith)))

pub loop-place-preserved : goal.loop-place-preserved
loop-place-preserved c =
    let more : c.loop-place.place ≡ suc (c.loop-place.place - 1) = omega (arith, c.loop-place-test.true) in
    let fits = subst (λ n. c.kept_count-count.result ≤ n) (ap length c.deref.ensures.value) c.kept_count-count.ensures.bound in
    let past = λ (k : ℕ) (e : Span) (from : c.kept_count-count.result ≤ k) (bound : k < length c.loop-place.later.items).
    subst (λ (xs : _). (get_or c.args.spans.now (c.loop-place.place - 1) none).to ≤ (get_or xs k e).from) c.deref.ensures.value
    (c.kept_count-count.ensures.past k e from (subst (λ n. k < n) (sym (ap length c.deref.ensures.value)) bound)) in (
      subst (λ xs. Stacks c.args.index.now c.args.spans.now xs (c.loop-place.place - 1))
          (sym (c.in_ok-push.ensures.items ∙ ap (λ xs. xs ++ get_or c.args.spans.now (c.loop-place.place - 1) none ∷ []) c.truncate.ensures.items))
          (Stacks-more c.args.index.now c.args.spans.now c.loop-place.later.items c.loop-place.place (c.loop-place.place - 1) c.kept_count-count.result c.loop-place.invariant.0 more c.requires fits past),
      Finds-more c.args.index.now c.args.spans.now c.args.pairs.now.items c.loop-place.pairs.items c.add_pair.new.pairs.items c.loop-place.place (c.loop-place.place - 1)
          c.loop-place.invariant.1 more c.in_ok-add_pair.ensures,
    )
