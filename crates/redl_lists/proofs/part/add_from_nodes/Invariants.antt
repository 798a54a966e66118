use Rattle.std.proofs.Common.{◌≡◌, ◌++◌, drop}
use Rattle.redl_tree.specs.Model.View.{nodes_of}
use Rattle.redl_lists.specs.Named.{all_named}
use Rattle.redl_lists.specs.Parts.{part_elements}
use Rattle.redl_lists.proofs.part.add_from_nodes.Given as goal

-- the parts so far, and then those among the nodes that are left
abbrev pub invariant-loop-node : goal.invariant-loop-node
invariant-loop-node l =
    part_elements l.parts.items ++ all_named l.name (nodes_of (drop l.node-index l.nodes)) ≡ part_elements l.initial.parts.items ++ all_named l.name (nodes_of l.nodes)
