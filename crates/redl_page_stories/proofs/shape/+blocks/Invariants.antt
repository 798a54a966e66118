use Rattle.std.proofs.Common.{◌≡◌, drop}
use Rattle.redl_tree.specs.Model.View.{nodes_of}
use Rattle.redl_page_stories.specs.Shapes.{holds_blocks}
use Rattle.redl_page_stories.proofs.shape.+blocks.Given as goal

abbrev pub invariant-holds_blocks-loop-node : goal.invariant-holds_blocks-loop-node
invariant-holds_blocks-loop-node l = holds_blocks (nodes_of (drop l.node-index l.nodes)) ≡ holds_blocks (nodes_of l.nodes)
