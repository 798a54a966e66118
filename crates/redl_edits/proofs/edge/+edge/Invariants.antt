use Rattle.std.proofs.Common.{◌≡◌, drop}
use Rattle.redl_tree.specs.Model.View.{nodes_of}
use Rattle.redl_edits.proofs.EdgeLaws.{edges}
use Rattle.redl_edits.proofs.edge.+edge.Given as goal

-- what the nodes that are left have is what all have
abbrev pub invariant-have_edge-loop-node : goal.invariant-have_edge-loop-node
invariant-have_edge-loop-node l = edges (nodes_of (drop l.node-index l.nodes)) ≡ edges (nodes_of l.nodes)
