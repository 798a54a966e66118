use Rattle.redl_classes.proofs.ParentLaws.{Settles}
use Rattle.redl_classes.proofs.parents.settle.Given as goal

abbrev pub invariant-loop-number : goal.invariant-loop-number
invariant-loop-number l = Settles l.fn.parents l.parents l.number
