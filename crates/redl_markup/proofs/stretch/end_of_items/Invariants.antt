use Rattle.std.proofs.Common.{length}
use Rattle.redl_grammar.specs.ScanStretches.{stretch_step, items_end}
use Rattle.redl_reading.proofs.Turns.{Going}
use Rattle.redl_markup.proofs.stretch.end_of_items.Given as goal

abbrev pub invariant-loop-next : goal.invariant-loop-next
invariant-loop-next l = Going (stretch_step l.place) length l.rest (items_end l.place l.bytes)

abbrev pub decreases-loop-next : goal.decreases-loop-next
decreases-loop-next l = length l.rest
