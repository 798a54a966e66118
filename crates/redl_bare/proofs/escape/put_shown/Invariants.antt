use Rattle.std.proofs.Common.{length}
use Rattle.redl_io.proofs.Puts.{PutsSoFar}
use Rattle.redl_shown.specs.Shown.{shown, shown_from}
use Rattle.redl_bare.specs.BareText.{escaped}
use Rattle.redl_bare.proofs.escape.put_shown.Given as goal

abbrev pub invariant-loop-step : goal.invariant-loop-step
invariant-loop-step g l =
    PutsSoFar g.K.Sink.told g.K.Sink.faults g.K.Sink.settled g.K.Sink.lenders l.initial.out l.out (escaped (shown l.bytes)) (escaped (shown_from l.here l.left))

abbrev pub decreases-loop-step : goal.decreases-loop-step
decreases-loop-step g l = length l.left
