use Rattle.std.proofs.Common.{◌≡◌, ◌||◌, codes, drop}
use Rattle.redl_tree.specs.Model.View.{nodes_of}
use Rattle.redl_page_stories.specs.Shapes.{switched_on}
use Rattle.redl_page_stories.proofs.emphasis.Emphasis.of_properties.Given as goal

-- what was found, or is switched on by the nodes that are left, is switched on by the nodes
abbrev pub invariant-loop-node : goal.invariant-loop-node
invariant-loop-node l = record {
  bold : (l.found.bold || switched_on (codes "b") (nodes_of (drop l.node-index l.nodes))) ≡ switched_on (codes "b") (nodes_of l.nodes);
  italic : (l.found.italic || switched_on (codes "i") (nodes_of (drop l.node-index l.nodes))) ≡ switched_on (codes "i") (nodes_of l.nodes);
}
