use Rattle.std.proofs.Common.{◌≡◌, ◌++◌, drop}
use Rattle.redl_tree.specs.Model.View.{nodes_of}
use Rattle.redl_edits.specs.Formats.{formats}
use Rattle.redl_edits.proofs.formats.+formats.Given as goal

-- what was found so far, and then what is among the nodes that are left
abbrev pub invariant-add_nodes-loop-node : goal.invariant-add_nodes-loop-node
invariant-add_nodes-loop-node l =
    l.found.items ++ formats (nodes_of l.nodes) (nodes_of (drop l.node-index l.nodes)) ≡ l.initial.found.items ++ formats (nodes_of l.nodes) (nodes_of l.nodes)
