use Rattle.std.proofs.Common.{◌≡◌, length}
use Rattle.redl_reading.specs.Lists.{lacks}
use Rattle.redl_pairs.proofs.word.lacks_filled.Given as goal

abbrev pub invariant-loop-next : goal.invariant-loop-next
invariant-loop-next l = lacks l.word l.rest ≡ lacks l.word l.text

abbrev pub decreases-loop-next : goal.decreases-loop-next
decreases-loop-next l = length l.rest
