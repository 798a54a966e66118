use Rattle.std.proofs.Common.{◌≡◌, ◌++◌}
use Rattle.redl_edits.specs.Beside.{beside_upto}
use Rattle.redl_edits.proofs.beside.add_beside.Given as goal

abbrev pub invariant-loop-place : goal.invariant-loop-place
invariant-loop-place l = l.pairs.items ≡ l.fn.pairs.items ++ beside_upto l.index l.spans l.place
