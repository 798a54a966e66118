use Rattle.std.proofs.Common.{◌≡◌, drop}
use Rattle.redl_leaves.specs.Inside.Cuts.{cut_slots}
use Rattle.redl_leaves.specs.View.{states_of}
use Rattle.redl_leaves.proofs.cutting.are_cut.Given as goal

abbrev pub invariant-loop-slot : goal.invariant-loop-slot
invariant-loop-slot l = cut_slots l.owner l.says (states_of (drop l.slot-index l.slots)) ≡ cut_slots l.owner l.says (states_of (l.slots))
