use Rattle.std.proofs.Common.{◌≡◌, take}
use Rattle.redl_inputs.specs.Idle.{idle_locks}
use Rattle.redl_inputs.proofs.idle.idle_locks.Given as goal

-- those of the first locks
abbrev pub invariant-loop-lock : goal.invariant-loop-lock
invariant-loop-lock l = l.idle.items ≡ idle_locks l.index (take l.lock-index l.locks)
