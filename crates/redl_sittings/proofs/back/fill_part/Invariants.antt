use Rattle.std.proofs.Common.{◌≡◌, ◌-◌, drop, length}
use Rattle.redl_sittings.specs.Inside.Filling.{with_pairs}
use Rattle.redl_sittings.specs.SecondNumbers.{beside}
use Rattle.redl_sittings.proofs.back.fill_part.Given as goal

-- the numbers of the last elements were put
abbrev pub invariant-loop-done : goal.invariant-loop-done
invariant-loop-done l =
    l.back ≡ with_pairs (beside (drop (length l.seconds - l.done) l.seconds) (drop (length l.seconds - l.done) l.firsts)) l.initial.back
