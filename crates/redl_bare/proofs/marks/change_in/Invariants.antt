use Rattle.std.proofs.Common.{◌≡◌, drop}
use Rattle.redl_tree.specs.Model.View.{nodes_of}
use Rattle.redl_bare.specs.Marks.{change_in}
use Rattle.redl_bare.proofs.marks.change_in.Given as goal

-- the answer is that of the nodes that are left
abbrev pub invariant-loop-node : goal.invariant-loop-node
invariant-loop-node l = change_in (nodes_of (drop l.node-index l.nodes)) ≡ change_in (nodes_of l.nodes)
