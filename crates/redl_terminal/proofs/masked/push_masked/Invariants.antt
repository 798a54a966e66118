use Rattle.std.proofs.Common.{◌≡◌, ◌++◌, length}
use Rattle.redl_terminal.specs.Masks.{masked}
use Rattle.redl_terminal.proofs.masked.push_masked.Given as goal

-- the line so far, and what is left
abbrev pub invariant-loop-step : goal.invariant-loop-step
invariant-loop-step l = l.fn.line.items ++ masked l.extent l.bytes ≡ l.line.items ++ masked l.extent l.left

abbrev pub decreases-loop-step : goal.decreases-loop-step
decreases-loop-step l = length l.left
