use Rattle.std.proofs.Common.{◌≡◌, ◌-◌}
use Rattle.redl_comments.specs.Threads.{any_done}
use Rattle.redl_comments.proofs.thread.Threads.any_done.Given as goal

-- the answer is that of the comments that are left
abbrev pub invariant-loop : goal.invariant-loop
invariant-loop l = any_done (l.count - l.counter) l.self l.next ≡ any_done l.count l.self l.fn.place
