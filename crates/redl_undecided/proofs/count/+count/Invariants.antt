use Rattle.std.proofs.Common.{◌≡◌, ◌≤◌, ◌+◌, ◌-◌, ◌^◌, min, drop}
use Rattle.redl_tree.specs.Model.View.{nodes_of}
use Rattle.redl_undecided.specs.Undecided.{undecided_marks}
use Rattle.redl_undecided.proofs.count.+count.Given as goal

-- the number so far, and then the marks of the nodes that are left
abbrev pub invariant-add_nodes-loop-node : goal.invariant-add_nodes-loop-node
invariant-add_nodes-loop-node l = record {
  in_range : l.total ≤ 2 ^ 64 - 1;
  total : min (l.total + undecided_marks (nodes_of (drop l.node-index l.nodes))) (2 ^ 64 - 1) ≡ min (l.count + undecided_marks (nodes_of l.nodes)) (2 ^ 64 - 1);
}
