-- The bounds of the items, in the order of their first numbers.
use Rattle.std.proofs.Common.{◌≡◌, List, subst, rules, IfOk}
use Rattle.std.specs.List.Sorted.{IsNonDecreasingBy, IsPermutation}
use Rattle.std.proofs.lemmas.List.Sorted.{IsNonDecreasingBy-from_sort_by_key}
use Rattle.redl_select.specs.declared.in_order.Bounds.{Bounds}
use Rattle.redl_select.proofs.InOrderLaws.{within_in_order, within_ascending}
use Rattle.redl_select.proofs.in_order.in_order.Goals as goal

pub returns-clause-value : goal.returns-clause-value
returns-clause-value c =
    let all = c.sort_unstable_by_key.new.self.items in
    let moved = subst (λ (bs : List Bounds). IsPermutation bs all) c.in_ok-all.ensures c.sort_unstable_by_key.ensures.permutation in
    let up : IsNonDecreasingBy (λ (b : Bounds). b.first) all = IsNonDecreasingBy-from_sort_by_key (λ (b : Bounds). b.first) _ c.sort_unstable_by_key.ensures.sorted (λ a r q k. search rules) in
    subst (λ numbers. IfOk c.numbers_within.result (λ v. v.items ≡ numbers)) (within_in_order c.args.count c.args.listed.now all moved up) (rw c.deref.ensures.value at c.numbers_within.ensures)

pub returns-clause-ascending : goal.returns-clause-ascending
returns-clause-ascending c = within_ascending c.numbers_within.result c.deref.result.now c.numbers_within.ensures
