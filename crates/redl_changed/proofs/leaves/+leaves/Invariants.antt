use Rattle.std.proofs.Common.{◌≡◌, drop}
use Rattle.redl_tree.specs.Model.View.{nodes_of}
use Rattle.redl_changed.specs.Kept.{kept_after}
use Rattle.redl_changed.specs.Leaves.{leaves_in}
use Rattle.redl_changed.proofs.leaves.+leaves.Given as goal

-- the leaves that are kept so far, and then those of the nodes that are left
abbrev pub invariant-push_leaves-loop-node : goal.invariant-push_leaves-loop-node
invariant-push_leaves-loop-node l =
    kept_after l.kept (leaves_in l.what l.path (nodes_of (drop l.node-index l.nodes))) ≡ kept_after l.initial.kept (leaves_in l.what l.path (nodes_of l.nodes))
