use Rattle.std.proofs.Common.{◌≡◌, take, map}
use Rattle.redl_tree.specs.Model.View.{item_of}
use Rattle.redl_output.proofs.copy.+copy.Given as goal

abbrev pub invariant-copy_nodes-loop-node : goal.invariant-copy_nodes-loop-node
invariant-copy_nodes-loop-node l = map item_of l.copies.items ≡ map item_of (take l.node-index l.nodes)
