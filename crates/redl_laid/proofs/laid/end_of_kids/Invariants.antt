use Rattle.std.proofs.Common.{length}
use Rattle.redl_tree.specs.declared.kinds.Space.TheVariants.{W}
use Rattle.redl_laid.specs.Inside.Fronts.{HasKids}
use Rattle.redl_laid.proofs.FrontLaws.{IsInside}
use Rattle.redl_laid.proofs.laid.end_of_kids.Given as goal

abbrev pub invariant-loop-piece : goal.invariant-loop-piece
invariant-loop-piece l = (kids : HasKids W l.bytes) → IsInside W l.bytes kids l.depth l.rest

abbrev pub decreases-loop-piece : goal.decreases-loop-piece
decreases-loop-piece l = length l.rest
