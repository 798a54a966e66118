use Rattle.std.proofs.Common.{◌≡◌, ◌++◌, drop}
use Rattle.redl_tree.specs.Model.View.{nodes_of}
use Rattle.redl_comments.specs.Comments.{states_among}
use Rattle.redl_comments.proofs.states.add_nodes.Given as goal

-- the states so far, and then those among the nodes that are left
abbrev pub invariant-loop-node : goal.invariant-loop-node
invariant-loop-node l = l.states.items ++ states_among (nodes_of (drop l.node-index l.nodes)) ≡ l.initial.states.items ++ states_among (nodes_of l.nodes)
