use Rattle.redl_edits.proofs.BesideLaws.{Leaves}
use Rattle.redl_edits.proofs.beside.add_before.Given as goal

abbrev pub invariant-loop-earlier : goal.invariant-loop-earlier
invariant-loop-earlier l = Leaves l.index l.spans l.one l.place l.fn.pairs.items l.pairs.items l.earlier
