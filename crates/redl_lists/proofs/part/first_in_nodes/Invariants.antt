use Rattle.std.proofs.Common.{◌≡◌, drop}
use Rattle.redl_tree.specs.Model.View.{nodes_of}
use Rattle.redl_lists.specs.Named.{first_named}
use Rattle.redl_lists.proofs.part.first_in_nodes.Given as goal

-- the answer is that of the nodes that are left
abbrev pub invariant-loop-node : goal.invariant-loop-node
invariant-loop-node l = first_named l.name (nodes_of (drop l.node-index l.nodes)) ≡ first_named l.name (nodes_of l.nodes)
