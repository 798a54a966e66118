use Rattle.std.proofs.Common.{◌≡◌, drop}
use Rattle.redl_tree.specs.Model.View.{nodes_of}
use Rattle.redl_page_stories.specs.Values.{value_of}
use Rattle.redl_page_stories.proofs.values.value_of.Given as goal

-- the answer is that of the nodes that are left
abbrev pub invariant-loop-node : goal.invariant-loop-node
invariant-loop-node l = value_of l.property (nodes_of (drop l.node-index l.kids)) ≡ value_of l.property (nodes_of l.kids)
