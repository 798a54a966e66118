use Rattle.std.proofs.Common.{◌≡◌, drop}
use Rattle.redl_tree.specs.Model.View.{nodes_of}
use Rattle.redl_tree.specs.Model.Kids.{has_element}
use Rattle.redl_tree.proofs.kids.has_elements.Given as goal

abbrev pub invariant-loop-node : goal.invariant-loop-node
invariant-loop-node l = has_element (nodes_of (drop l.node-index l.nodes)) ≡ has_element (nodes_of l.nodes)
