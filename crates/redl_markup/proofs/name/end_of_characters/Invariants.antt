use Rattle.std.proofs.Common.{length}
use Rattle.redl_grammar.specs.ScanNames.{name_step, name_end}
use Rattle.redl_reading.proofs.Turns.{Going}
use Rattle.redl_markup.proofs.name.end_of_characters.Given as goal

abbrev pub invariant-loop-c : goal.invariant-loop-c
invariant-loop-c l = Going (name_step l.colons) length l.rest (name_end l.colons l.bytes)

abbrev pub decreases-loop-c : goal.decreases-loop-c
decreases-loop-c l = length l.rest
