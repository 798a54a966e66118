use Rattle.std.proofs.Common.{◌≡◌, drop}
use Rattle.redl_tree.specs.Model.View.{nodes_of}
use Rattle.redl_clauses.specs.Signs.{has_sign}
use Rattle.redl_clauses.proofs.signs.+signs.Given as goal

-- the answer is that of the nodes that are left
abbrev pub invariant-has_sign-loop-node : goal.invariant-has_sign-loop-node
invariant-has_sign-loop-node l = has_sign (nodes_of (drop l.node-index l.nodes)) ≡ has_sign (nodes_of l.nodes)
