use Rattle.std.proofs.Common.{◌≡◌, take}
use Rattle.redl_inputs.proofs.sessions.copy_locks.Given as goal

abbrev pub invariant-loop-lock : goal.invariant-loop-lock
invariant-loop-lock l = l.copies.items ≡ take l.lock-index l.locks
