use Rattle.std.proofs.Common.{◌++◌, All, drop, length, take, subst, sym, ◌∙◌, ap}
use Rattle.std.proofs.Math.Seq.{take-append_seam}
use Rattle.std.proofs.lemmas.List.FromFn.{length-range_with_len}
use Rattle.std.specs.List.{range_with_len}
use Rattle.redl_classes.specs.Least.{IsBelow, least_numbers_of}
use Rattle.redl_classes.proofs.least.least_numbers.Goals as goal

pub join_all-requires-clause-alone : goal.join_all-requires-clause-alone
join_all-requires-clause-alone c =
    let alone = c.deref_mut.ensures.value ∙ c.in_ok-numbers.ensures in
    alone ∙ ap (range_with_len 0) (sym (ap length alone ∙ length-range_with_len 0 c.args.count))

pub join_all-requires-clause-bounds : goal.join_all-requires-clause-bounds
join_all-requires-clause-bounds c =
    let count = ap length (c.deref_mut.ensures.value ∙ c.in_ok-numbers.ensures) ∙ length-range_with_len 0 c.args.count in
    subst (λ n. All (IsBelow n) c.args.pairs.now) (sym count) c.requires

pub returns-clause-value : goal.returns-clause-value
returns-clause-value c =
    let count = ap length (c.deref_mut.ensures.value ∙ c.in_ok-numbers.ensures) ∙ length-range_with_len 0 c.args.count in
    let same = sym (c.join_all.auto.numbers ∙ c.deref_mut.ensures.len) in
    ap (λ n. take n (c.join_all.new.numbers ++ drop (length c.join_all.new.numbers) c.in_ok-numbers.numbers.items)) same
    ∙ take-append_seam c.join_all.new.numbers (drop (length c.join_all.new.numbers) c.in_ok-numbers.numbers.items)
    ∙ c.join_all.ensures.value ∙ ap (λ n. least_numbers_of n c.args.pairs.now) count

pub returns-clause-count : goal.returns-clause-count
returns-clause-count c =
    sym c.deref_mut.ensures.len ∙ ap length (c.deref_mut.ensures.value ∙ c.in_ok-numbers.ensures) ∙ length-range_with_len 0 c.args.count
