use Rattle.std.proofs.Common.{◌≡◌, ◌++◌, drop}
use Rattle.redl_tree.specs.Model.View.{nodes_of}
use Rattle.redl_edits.specs.Tabled.{tabled_in}
use Rattle.redl_edits.proofs.tabled.+tabled.Given as goal

-- what was found so far, and then what is among the nodes that are left
abbrev pub invariant-add_nodes-loop-node : goal.invariant-add_nodes-loop-node
invariant-add_nodes-loop-node l =
    l.pairs.items ++ tabled_in l.index (nodes_of (drop l.node-index l.nodes)) ≡ l.initial.pairs.items ++ tabled_in l.index (nodes_of l.nodes)
