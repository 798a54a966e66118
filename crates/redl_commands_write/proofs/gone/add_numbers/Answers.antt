use Rattle.std.proofs.Common.{◌≡◌, ◌+◌, ◌∷◌, ◌++◌, [], true, take, get_or, arith}
use Rattle.std.proofs.lemmas.List.{take_more}
use Rattle.std.specs.BTreeSet.{contains}
use Rattle.std.specs.Ordering.{nat_cmp}
use Rattle.redl_commands_write.proofs.ChoiceLaws.{word_set}
use Rattle.redl_commands_write.proofs.gone.add_numbers.Goals as goal

pub loop-number-preserved : goal.loop-number-preserved
loop-number-preserved c =
    let numbers = c.args.numbers.now in
    let i = c.loop-number.number-index in
    let number = get_or numbers i 0 in
    let more : take (i + 1) numbers ≡ take i numbers ++ number ∷ [] = take_more numbers i 0 (omega arith) in
    λ one. word_set (take i numbers) (take (i + 1) numbers) number one more true (contains nat_cmp c.args.standing.now one)
    (contains nat_cmp c.loop-number.standing one) (contains nat_cmp c.insert.new.self one)
    (c.loop-number.invariant one) (c.in_ok-insert.ensures.updates.0 one)
