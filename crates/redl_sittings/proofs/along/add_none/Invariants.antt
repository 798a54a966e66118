use Rattle.std.proofs.Common.{◌≡◌, ◌++◌, replicate}
use Rattle.redl_sittings.proofs.along.add_none.Given as goal

-- so many were added
abbrev pub invariant-loop : goal.invariant-loop
invariant-loop l = l.numbers.items ≡ l.initial.numbers.items ++ replicate l.counter 0
