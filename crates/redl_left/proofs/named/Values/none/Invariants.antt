use Rattle.std.proofs.Common.{◌≡◌, ◌≤◌, ◌-◌, ℕ, List, false, map, replicate, vec_len}
use Rattle.redl_left.specs.Named.{has_in}
use Rattle.redl_left.specs.declared.named.TheConstants.{FRONTS}
use Rattle.redl_left.proofs.named.Values.none.Given as goal

abbrev pub decreases-loop-alloc : goal.decreases-loop-alloc
decreases-loop-alloc l = FRONTS - vec_len l.by_front

abbrev pub invariant-loop-alloc : goal.invariant-loop-alloc
invariant-loop-alloc l = record {
  few : vec_len l.by_front ≤ FRONTS;
  none : (other : List ℕ) → map (λ keys. has_in other keys) l.by_front.items ≡ replicate (vec_len l.by_front) false;
}
