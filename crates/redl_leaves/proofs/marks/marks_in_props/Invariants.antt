use Rattle.std.proofs.Common.{◌≡◌, drop}
use Rattle.redl_leaves.specs.Inside.Marks.{has_para_mark}
use Rattle.redl_tree.specs.Model.View.{nodes_of}
use Rattle.redl_leaves.proofs.marks.marks_in_props.Given as goal

abbrev pub invariant-loop-kid : goal.invariant-loop-kid
invariant-loop-kid l = has_para_mark (nodes_of (drop l.kid-index l.kids)) ≡ has_para_mark (nodes_of (l.kids))
