use Rattle.std.proofs.Common.{◌≡◌, length}
use Rattle.std.specs.List.{last_or}
use Rattle.redl_shown.specs.Shown.{shown, shown_from}
use Rattle.redl_marked.specs.Inside.Walks.{last_of}
use Rattle.redl_marked.proofs.last.last_shown.Given as goal

abbrev pub invariant-loop-step : goal.invariant-loop-step
invariant-loop-step l = last_or l.last (shown_from l.here l.left) ≡ last_of (shown l.bytes)

abbrev pub decreases-loop-step : goal.decreases-loop-step
decreases-loop-step l = length l.left
