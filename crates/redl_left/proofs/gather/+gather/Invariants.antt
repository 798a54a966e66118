use Rattle.std.proofs.Common.{drop}
use Rattle.redl_tree.specs.Model.View.{nodes_of}
use Rattle.redl_left.specs.Alike.{NameAlike}
use Rattle.redl_left.specs.Finds.{finds}
use Rattle.redl_left.specs.Known.{AreKnown}
use Rattle.redl_left.specs.Lines.{naming, noted_all}
use Rattle.redl_left.specs.Seen.{tables_of}
use Rattle.redl_left.proofs.gather.+gather.Given as goal

-- what was named so far, and then the nodes that are left
abbrev pub invariant-gather_nodes-loop-node : goal.invariant-gather_nodes-loop-node
invariant-gather_nodes-loop-node l = record {
  known : AreKnown naming l.known;
  noted : NameAlike (noted_all (tables_of l.seen) (finds naming l.part l.parent (nodes_of (drop l.node-index l.nodes))))
      (noted_all (tables_of l.initial.seen) (finds naming l.part l.parent (nodes_of l.nodes)));
}
