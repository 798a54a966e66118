use Rattle.std.proofs.Common.{length}
use Rattle.redl_markup.proofs.BareLaws.{PastSome}
use Rattle.redl_markup.proofs.bare.attributes_end.Given as goal

abbrev pub invariant-loop-gap : goal.invariant-loop-gap
invariant-loop-gap l = PastSome l.rest l.bytes

abbrev pub decreases-loop-gap : goal.decreases-loop-gap
decreases-loop-gap l = length l.rest
