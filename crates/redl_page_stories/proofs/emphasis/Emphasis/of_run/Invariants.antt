use Rattle.std.proofs.Common.{◌≡◌, ◌||◌, codes, drop}
use Rattle.redl_tree.specs.Model.View.{nodes_of}
use Rattle.redl_page_stories.specs.Shapes.{has_property}
use Rattle.redl_page_stories.proofs.emphasis.Emphasis.of_run.Given as goal

-- what was found, or is in the nodes that are left, is in the nodes
abbrev pub invariant-loop-node : goal.invariant-loop-node
invariant-loop-node l = record {
  bold : (l.found.bold || has_property (codes "b") (nodes_of (drop l.node-index l.kids))) ≡ has_property (codes "b") (nodes_of l.kids);
  italic : (l.found.italic || has_property (codes "i") (nodes_of (drop l.node-index l.kids))) ≡ has_property (codes "i") (nodes_of l.kids);
}
