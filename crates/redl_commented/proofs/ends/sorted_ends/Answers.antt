-- A sort keeps how many are up to a place.
use Rattle.std.proofs.Common.{◌∙◌, ap, rules, ℕ, List, filter, length}
use Rattle.std.proofs.lemmas.List.Sorted.{IsNonDecreasingBy-from_sort_by_key, answers_always}
use Rattle.redl_commented.specs.Inside.Fronts.{is_by}
use Rattle.redl_commented.proofs.EndLaws.{ends-counted, in_order-counted}
use Rattle.redl_commented.proofs.OrderLaws.{stable-sort}
use Rattle.redl_commented.proofs.ends.sorted_ends.Goals as goal

pub returns-clause-order : goal.returns-clause-order
returns-clause-order c = IsNonDecreasingBy-from_sort_by_key (λ end. end) _ c.in_ok-sort_by_key.ensures.sorted (λ a r q k. search rules)

pub returns-clause-ends : goal.returns-clause-ends
returns-clause-ends c = λ from.
    let ends = c.in_ok-ends.ends.items in
    ap (λ (es : List ℕ). length (filter (is_by from) es))
    (stable-sort (λ end. end) ends _ (c.in_ok-sort_by_key.ensures.sorted (λ end. end) (answers_always _ _ _ (λ f a r g h. search rules)))
    (c.sort_by_key.ensures.stable (λ end. end) (answers_always _ _ _ (λ f a r g h. search rules))))
    ∙ in_order-counted (λ end. end) (is_by from) ends
    ∙ ap (λ (es : List ℕ). length (filter (is_by from) es)) c.in_ok-ends.ensures
    ∙ ends-counted from c.args.all.now
