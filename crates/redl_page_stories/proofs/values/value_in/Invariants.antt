use Rattle.std.proofs.Common.{◌≡◌, drop}
use Rattle.redl_tree.specs.Model.View.{nodes_of}
use Rattle.redl_page_stories.specs.Values.{value_in}
use Rattle.redl_page_stories.proofs.values.value_in.Given as goal

-- the answer is that of the nodes that are left
abbrev pub invariant-loop-node : goal.invariant-loop-node
invariant-loop-node l = value_in l.property (nodes_of (drop l.node-index l.nodes)) ≡ value_in l.property (nodes_of l.nodes)
