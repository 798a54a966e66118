use Rattle.std.proofs.Common.{◌≡◌, ◌-◌, drop, length, map}
use Rattle.redl_sittings.specs.Inside.Filling.{with_pairs}
use Rattle.redl_sittings.specs.SecondNumbers.{parts_beside}
use Rattle.redl_sittings.proofs.back.fill.Given as goal

-- the numbers of the last parts were put
abbrev pub invariant-loop-done : goal.invariant-loop-done
invariant-loop-done l =
    l.back ≡ with_pairs (parts_beside (drop (length l.seconds - l.done) (map (λ part. part.items) l.seconds)) (drop (length l.seconds - l.done) (map (λ part. part.items) l.firsts))) l.initial.back
