use Rattle.std.proofs.Common.{◌≡◌, ◌++◌, drop}
use Rattle.redl_tree.specs.Model.View.{nodes_of}
use Rattle.redl_comments.specs.Comments.{root_states}
use Rattle.redl_comments.proofs.states.states_below.Given as goal

-- the states so far, and then those in the roots that are left
abbrev pub invariant-loop-node : goal.invariant-loop-node
invariant-loop-node l = l.states.items ++ root_states (nodes_of (drop l.node-index l.nodes)) ≡ root_states (nodes_of l.nodes)
