use Rattle.std.proofs.Common.{◌≡◌, ◌<◌, ◌^◌, ◌+◌, drop}
use Rattle.redl_leaves.specs.Inside.Splits.{owned_at}
use Rattle.redl_leaves.specs.View.{states_of}
use Rattle.redl_leaves.proofs.split.count_owned.Given as goal

abbrev pub invariant-loop-slot : goal.invariant-loop-slot
invariant-loop-slot l =
    owned_at l.spot (states_of l.slots) < 2 ^ 32 → l.owned + owned_at l.spot (states_of (drop l.slot-index l.slots)) ≡ owned_at l.spot (states_of l.slots)
