use Rattle.std.proofs.Common.{◌≡◌, drop}
use Rattle.redl_tree.specs.Decisions.Restored.{former_kids}
use Rattle.redl_tree.specs.Model.View.{nodes_of}
use Rattle.redl_tree.specs.Roles.Places.{props_name}
use Rattle.redl_changed.proofs.changed.former_leaves.Given as goal

abbrev pub invariant-loop-kid : goal.invariant-loop-kid
invariant-loop-kid l = former_kids (props_name l.what) (nodes_of (drop l.kid-index l.kids)) ≡ former_kids (props_name l.what) (nodes_of l.kids)
