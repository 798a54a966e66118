use Rattle.std.proofs.Common.{drop}
use Rattle.redl_io.proofs.Puts.{PutsSoFar}
use Rattle.redl_tree.specs.Model.View.{nodes_of}
use Rattle.redl_marked.specs.Signs.{run_signs}
use Rattle.redl_marked.proofs.signs.put_run_signs.Given as goal

abbrev pub invariant-loop-node : goal.invariant-loop-node
invariant-loop-node g l =
    PutsSoFar g.K.Sink.told g.K.Sink.faults g.K.Sink.settled g.K.Sink.lenders l.initial.out l.out
    (run_signs (nodes_of l.nodes)) (run_signs (nodes_of (drop l.node-index l.nodes)))
