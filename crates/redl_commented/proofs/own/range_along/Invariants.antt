use Rattle.std.proofs.Common.{◌≡◌, ◌-◌}
use Rattle.redl_commented.specs.Ranges.{range_along}
use Rattle.redl_commented.proofs.own.range_along.Given as goal

-- the answer is that of the comments that are left
abbrev pub invariant-loop : goal.invariant-loop
invariant-loop l = range_along (l.count - l.counter) l.own l.threads l.next ≡ range_along l.count l.own l.threads l.fn.place
