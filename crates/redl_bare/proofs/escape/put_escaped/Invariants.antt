use Rattle.std.proofs.Common.{length}
use Rattle.redl_io.proofs.Puts.{PutsSoFar}
use Rattle.redl_bare.specs.BareText.{escaped}
use Rattle.redl_bare.proofs.escape.put_escaped.Given as goal

abbrev pub invariant-loop-first : goal.invariant-loop-first
invariant-loop-first g l =
    PutsSoFar g.K.Sink.told g.K.Sink.faults g.K.Sink.settled g.K.Sink.lenders l.initial.out l.out (escaped l.text) (escaped l.left)

abbrev pub decreases-loop-first : goal.decreases-loop-first
decreases-loop-first g l = length l.left
