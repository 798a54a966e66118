use Rattle.std.proofs.Common.{◌≡◌, ◌++◌, drop, filter}
use Rattle.redl_commented.specs.On.{ends_after}
use Rattle.redl_commented.proofs.front.Front.ending_after.Given as goal

-- those found so far, and then those of the ones that are left
abbrev pub invariant-loop-ranged : goal.invariant-loop-ranged
invariant-loop-ranged l = l.found.items ++ filter (ends_after l.from) (drop l.ranged-index l.self.top.items) ≡ filter (ends_after l.from) l.self.top.items
