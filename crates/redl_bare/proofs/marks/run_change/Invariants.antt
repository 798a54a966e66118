use Rattle.std.proofs.Common.{◌≡◌, drop}
use Rattle.redl_tree.specs.Model.View.{nodes_of}
use Rattle.redl_bare.specs.Marks.{run_change}
use Rattle.redl_bare.proofs.marks.run_change.Given as goal

-- the answer is that of the nodes that are left
abbrev pub invariant-loop-node : goal.invariant-loop-node
invariant-loop-node l = run_change (nodes_of (drop l.node-index l.kids)) ≡ run_change (nodes_of l.kids)
