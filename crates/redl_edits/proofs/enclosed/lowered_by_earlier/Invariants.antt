use Rattle.redl_edits.proofs.RoundLaws.{Lowering}
use Rattle.redl_edits.proofs.enclosed.lowered_by_earlier.Given as goal

abbrev pub invariant-loop-earlier : goal.invariant-loop-earlier
invariant-loop-earlier l = Lowering l.index l.change l.spans l.unit l.need l.earlier
