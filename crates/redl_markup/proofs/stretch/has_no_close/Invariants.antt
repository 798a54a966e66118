use Rattle.std.proofs.Common.{◌≡◌, length}
use Rattle.std.specs.Prelude.{codes}
use Rattle.redl_reading.specs.Lists.{lacks}
use Rattle.redl_markup.proofs.stretch.has_no_close.Given as goal

abbrev pub invariant-loop-rest : goal.invariant-loop-rest
invariant-loop-rest l = lacks (codes "]]>") l.left ≡ lacks (codes "]]>") l.bytes

abbrev pub decreases-loop-rest : goal.decreases-loop-rest
decreases-loop-rest l = length l.left
