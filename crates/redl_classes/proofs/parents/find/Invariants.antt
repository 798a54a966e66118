use Rattle.redl_classes.proofs.ParentLaws.{Leads}
use Rattle.redl_classes.proofs.parents.find.Given as goal

abbrev pub invariant-loop-parents : goal.invariant-loop-parents
invariant-loop-parents l = Leads l.fn.parents l.fn.number l.parents l.at

abbrev pub decreases-loop-parents : goal.decreases-loop-parents
decreases-loop-parents l = l.at
