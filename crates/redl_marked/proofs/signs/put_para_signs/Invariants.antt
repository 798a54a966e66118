use Rattle.std.proofs.Common.{drop}
use Rattle.redl_io.proofs.Puts.{PutsSoFar}
use Rattle.redl_tree.specs.Model.View.{nodes_of}
use Rattle.redl_marked.specs.Signs.{para_signs}
use Rattle.redl_marked.proofs.signs.put_para_signs.Given as goal

abbrev pub invariant-loop-kid : goal.invariant-loop-kid
invariant-loop-kid g l =
    PutsSoFar g.K.Sink.told g.K.Sink.faults g.K.Sink.settled g.K.Sink.lenders l.initial.out l.out
    (para_signs (nodes_of l.kids)) (para_signs (nodes_of (drop l.kid-index l.kids)))
