use Rattle.std.proofs.Common.{drop}
use Rattle.redl_tree.specs.Model.View.{nodes_of}
use Rattle.redl_bare.specs.Units.{units_in}
use Rattle.redl_bare.specs.Inside.Views.{marks_view}
use Rattle.redl_bare.proofs.LineLaws.{UnitsSoFar}
use Rattle.redl_bare.proofs.walk.+units.Given as goal

abbrev pub invariant-put_nodes-loop-node : goal.invariant-put_nodes-loop-node
invariant-put_nodes-loop-node g l =
    let marks = marks_view l.initial.writer.marks in
    UnitsSoFar g.K.Sink.told g.K.Sink.faults g.K.Sink.settled g.K.Sink.lenders l.initial.writer l.writer (units_in l.place marks (nodes_of l.nodes))
    (units_in l.place marks (nodes_of (drop l.node-index l.nodes)))
