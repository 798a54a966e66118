use Rattle.std.proofs.Common.{drop}
use Rattle.redl_io.proofs.Puts.{PutsSoFar}
use Rattle.redl_tree.specs.Model.View.{nodes_of}
use Rattle.redl_marked.specs.Signs.{mark_signs}
use Rattle.redl_marked.proofs.signs.put_mark_signs.Given as goal

abbrev pub invariant-loop-node : goal.invariant-loop-node
invariant-loop-node g l =
    PutsSoFar g.K.Sink.told g.K.Sink.faults g.K.Sink.settled g.K.Sink.lenders l.initial.out l.out
    (mark_signs (nodes_of l.nodes)) (mark_signs (nodes_of (drop l.node-index l.nodes)))
