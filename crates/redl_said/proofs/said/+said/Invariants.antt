use Rattle.std.proofs.Common.{◌≡◌, drop}
use Rattle.redl_tree.specs.Model.View.{nodes_of}
use Rattle.redl_said.specs.Said.{said}
use Rattle.redl_said.proofs.said.+said.Given as goal

-- what the nodes that are left say is heard after what was said so far
abbrev pub invariant-tell_nodes-loop-node : goal.invariant-tell_nodes-loop-node
invariant-tell_nodes-loop-node g l =
    g.E.Ear.heard l.ear (said l.in_line l.in_text (nodes_of (drop l.node-index l.nodes))) ≡ g.E.Ear.heard l.initial.ear (said l.in_line l.in_text (nodes_of l.nodes))
