use Rattle.std.proofs.Common.{◌≡◌, drop}
use Rattle.redl_tree.specs.Model.View.{nodes_of}
use Rattle.redl_edits.proofs.EdgeLaws.{own_edges}
use Rattle.redl_edits.proofs.edge.has_edge.Given as goal

-- what the nodes that are left have is what all have
abbrev pub invariant-loop-node : goal.invariant-loop-node
invariant-loop-node l = own_edges (nodes_of (drop l.node-index l.kids)) ≡ own_edges (nodes_of l.kids)
