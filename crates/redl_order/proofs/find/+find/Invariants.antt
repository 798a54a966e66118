use Rattle.std.proofs.Common.{◌≡◌, ◌++◌, drop}
use Rattle.redl_tree.specs.Model.View.{nodes_of}
use Rattle.redl_order.specs.References.{references}
use Rattle.redl_order.proofs.find.+find.Given as goal

-- what was found so far, and then what is among the nodes that are left
abbrev pub invariant-find_nodes-loop-node : goal.invariant-find_nodes-loop-node
invariant-find_nodes-loop-node l =
    l.seen.references.items ++ references (nodes_of (drop l.node-index l.nodes)) ≡ l.initial.seen.references.items ++ references (nodes_of l.nodes)
