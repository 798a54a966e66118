use Rattle.redl_edits.proofs.StackLaws.{Finds, Stacks}
use Rattle.redl_edits.proofs.enclosed.add_enclosed.Given as goal

abbrev pub invariant-loop-place : goal.invariant-loop-place
invariant-loop-place l = Stacks l.index l.spans l.later.items l.place × Finds l.index l.spans l.fn.pairs.items l.pairs.items l.place
