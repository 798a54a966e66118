use Rattle.std.proofs.Common.{◌≡◌, drop}
use Rattle.redl_tree.specs.Model.View.{nodes_of}
use Rattle.redl_lists.specs.Named.{first_within}
use Rattle.redl_lists.proofs.within.+within.Given as goal

-- the answer is that of the nodes that are left
abbrev pub invariant-within_nodes-loop-node : goal.invariant-within_nodes-loop-node
invariant-within_nodes-loop-node l = first_within l.name (nodes_of (drop l.node-index l.nodes)) ≡ first_within l.name (nodes_of l.nodes)
