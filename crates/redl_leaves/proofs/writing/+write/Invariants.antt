use Rattle.std.proofs.Common.{drop}
use Rattle.redl_io.proofs.Puts.{PutsSoFar}
use Rattle.redl_tree.specs.Leaves.States.{shown}
use Rattle.redl_tree.specs.Model.Text.{text}
use Rattle.redl_leaves.specs.View.{states_of}
use Rattle.redl_leaves.proofs.writing.+write.Given as goal

abbrev pub invariant-write_slots-loop-slot : goal.invariant-write_slots-loop-slot
invariant-write_slots-loop-slot g l =
    PutsSoFar g.K.Sink.told g.K.Sink.faults g.K.Sink.settled g.K.Sink.lenders l.initial.out l.out
    (text (shown (states_of l.slots))) (text (shown (states_of (drop l.slot-index l.slots))))
