use Rattle.std.proofs.Common.{◌≡◌, ℕ, ◌<◌, ◌≤◌, ◌-◌, true, length, get_or}
use Rattle.redl_reading.proofs.scan.run.Given as goal

abbrev pub invariant-loop-n : goal.invariant-loop-n
invariant-loop-n g l =
    goal.F-IsAlwaysCallable g l.passes × (l.n ≤ length l.bytes) × ((k : ℕ) → k < l.n → (get_or l.bytes k 0 < 256) × goal.F-post g l.passes (get_or l.bytes k 0) true)

abbrev pub decreases-loop-n : goal.decreases-loop-n
decreases-loop-n g l = length l.bytes - l.n
