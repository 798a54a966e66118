use Rattle.std.proofs.Common.{◌≡◌, length}
use Rattle.redl_shown.specs.Shown.{shown, shown_from}
use Rattle.redl_said.proofs.said.tell_shown.Given as goal

abbrev pub invariant-loop-step : goal.invariant-loop-step
invariant-loop-step g l = g.E.Ear.heard l.ear (shown_from l.here l.left) ≡ g.E.Ear.heard l.initial.ear (shown l.bytes)

abbrev pub decreases-loop-step : goal.decreases-loop-step
decreases-loop-step g l = length l.left
