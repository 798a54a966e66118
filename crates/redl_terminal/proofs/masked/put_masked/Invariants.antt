use Rattle.std.proofs.Common.{length}
use Rattle.redl_io.proofs.Puts.{PutsSoFar}
use Rattle.redl_terminal.specs.Masks.{masked}
use Rattle.redl_terminal.proofs.masked.put_masked.Given as goal

abbrev pub invariant-loop-step : goal.invariant-loop-step
invariant-loop-step g l =
    PutsSoFar g.K.Sink.told g.K.Sink.faults g.K.Sink.settled g.K.Sink.lenders l.initial.out l.out (masked l.extent l.bytes) (masked l.extent l.left)

abbrev pub decreases-loop-step : goal.decreases-loop-step
decreases-loop-step g l = length l.left
