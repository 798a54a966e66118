use Rattle.redl_edits.proofs.DarkLaws.{Darkens}
use Rattle.redl_edits.proofs.dark.dark_behind.Given as goal

abbrev pub invariant-loop-place : goal.invariant-loop-place
invariant-loop-place l = Darkens l.passed l.spans l.dark.items l.place l.at l.next
