use Rattle.std.proofs.Common.{◌≡◌, drop}
use Rattle.redl_tree.specs.Model.View.{nodes_of}
use Rattle.redl_left.specs.Finds.{finds}
use Rattle.redl_left.specs.Known.{AreKnown}
use Rattle.redl_left.specs.Lines.{noted_all}
use Rattle.redl_left.specs.Search.{table_of}
use Rattle.redl_left.specs.Seen.{tables_of}
use Rattle.redl_left.proofs.walk.+look.Given as goal

-- what was noted so far, and then the nodes that are left
abbrev pub invariant-look_nodes-loop-node : goal.invariant-look_nodes-loop-node
invariant-look_nodes-loop-node l = record {
  known : AreKnown (table_of l.below.search.now) l.known;
  noted : noted_all (tables_of l.seen) (finds (table_of l.below.search.now) l.below.part.now l.parent (nodes_of (drop l.node-index l.nodes)))
      ≡ noted_all (tables_of l.initial.seen) (finds (table_of l.below.search.now) l.below.part.now l.parent (nodes_of l.nodes));
}
