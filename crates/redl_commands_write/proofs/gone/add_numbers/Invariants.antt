use Rattle.std.proofs.Common.{◌≡◌, ℕ, true, take, if◌then◌else◌}
use Rattle.std.specs.BTreeSet.{contains}
use Rattle.std.specs.Ordering.{nat_cmp}
use Rattle.redl_commands.specs.Choices.{is_among}
use Rattle.redl_commands_write.proofs.gone.add_numbers.Given as goal

-- the numbers so far are among them
abbrev pub invariant-loop-number : goal.invariant-loop-number
invariant-loop-number l = (number : ℕ) → contains nat_cmp l.standing number
    ≡ (if is_among (take l.number-index l.numbers) number then true else contains nat_cmp l.initial.standing number)
