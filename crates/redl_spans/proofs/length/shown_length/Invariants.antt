use Rattle.std.proofs.Common.{◌≡◌, ◌+◌, length}
use Rattle.redl_shown.specs.Shown.{shown, shown_from}
use Rattle.redl_spans.proofs.length.shown_length.Given as goal

-- what was counted, and what is left
abbrev pub invariant-loop-step : goal.invariant-loop-step
invariant-loop-step l = l.count + length (shown_from l.here l.left) ≡ length (shown l.bytes)

abbrev pub decreases-loop-step : goal.decreases-loop-step
decreases-loop-step l = length l.left
