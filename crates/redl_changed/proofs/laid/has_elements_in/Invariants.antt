use Rattle.std.proofs.Common.{◌≡◌, length}
use Rattle.redl_tree.specs.Model.Folds.{nodes_in}
use Rattle.redl_tree.specs.Model.Kids.{has_element}
use Rattle.redl_tree.specs.declared.kinds.Space.TheVariants.{W}
use Rattle.redl_changed.proofs.laid.has_elements_in.Given as goal

-- the answer is that of the nodes that are left
abbrev pub invariant-loop-first : goal.invariant-loop-first
invariant-loop-first l = has_element (nodes_in W l.left) ≡ has_element (nodes_in W l.fn.laid)

abbrev pub decreases-loop-first : goal.decreases-loop-first
decreases-loop-first l = length l.left
