use Rattle.std.proofs.Common.{◌≡◌, drop}
use Rattle.redl_tree.specs.Leaves.Slots.{has_mark}
use Rattle.redl_tree.specs.Model.View.{nodes_of}
use Rattle.redl_leaves.proofs.marks.is_marked.Given as goal

abbrev pub invariant-loop-kid : goal.invariant-loop-kid
invariant-loop-kid l = has_mark (nodes_of (drop l.kid-index l.kids)) ≡ has_mark (nodes_of (l.kids))
