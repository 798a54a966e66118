use Rattle.std.proofs.Common.{◌≡◌, length}
use Rattle.redl_reading.specs.Lists.{past}
use Rattle.redl_reading.proofs.scan.past.Given as goal

abbrev pub invariant-loop-rest : goal.invariant-loop-rest
invariant-loop-rest l = past l.word l.left ≡ past l.word l.bytes

abbrev pub decreases-loop-rest : goal.decreases-loop-rest
decreases-loop-rest l = length l.left
