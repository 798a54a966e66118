use Rattle.std.proofs.Common.{◌≡◌, drop}
use Rattle.redl_tree.specs.Model.View.{nodes_of}
use Rattle.redl_left.specs.Finds.{inner_shown}
use Rattle.redl_left.proofs.told.inner_shown.Given as goal

abbrev pub invariant-loop-node : goal.invariant-loop-node
invariant-loop-node l = inner_shown (nodes_of (drop l.node-index l.kids)) ≡ inner_shown (nodes_of l.kids)
