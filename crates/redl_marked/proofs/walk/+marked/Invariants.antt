use Rattle.std.proofs.Common.{drop}
use Rattle.redl_io.proofs.Puts.{PutsSoFar}
use Rattle.redl_tree.specs.Model.View.{nodes_of}
use Rattle.redl_marked.specs.Inside.Walks.{marked}
use Rattle.redl_marked.proofs.walk.+marked.Given as goal

abbrev pub invariant-put_nodes-loop-node : goal.invariant-put_nodes-loop-node
invariant-put_nodes-loop-node g l =
    PutsSoFar g.K.Sink.told g.K.Sink.faults g.K.Sink.settled g.K.Sink.lenders l.initial.out l.out
    (marked l.above (nodes_of l.nodes)) (marked l.above (nodes_of (drop l.node-index l.nodes)))
