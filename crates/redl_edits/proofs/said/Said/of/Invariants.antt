use Rattle.redl_edits.proofs.SaidLaws.{Finding}
use Rattle.redl_edits.proofs.said.Said.of.Given as goal

abbrev pub invariant-loop-place : goal.invariant-loop-place
invariant-loop-place l = Finding l.formats.items l.places.items l.count l.place
