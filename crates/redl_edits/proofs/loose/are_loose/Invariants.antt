use Rattle.redl_edits.proofs.LooseLaws.{Loosens}
use Rattle.redl_edits.proofs.StackLaws.{Stacks}
use Rattle.redl_edits.proofs.loose.are_loose.Given as goal

abbrev pub invariant-loop-place : goal.invariant-loop-place
invariant-loop-place l = Stacks l.index l.spans l.later.items l.place × Loosens l.index l.spans l.loose.items l.place
