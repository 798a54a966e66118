use Rattle.std.proofs.Common.{◌≡◌, length}
use Rattle.redl_tree.specs.Model.Folds.{nodes_in}
use Rattle.redl_tree.specs.declared.kinds.Space.TheVariants.{W}
use Rattle.redl_lists.specs.Named.{first_named}
use Rattle.redl_lists.proofs.part.first_in_rest.Given as goal

-- the answer is that of the nodes that are left
abbrev pub invariant-loop-first : goal.invariant-loop-first
invariant-loop-first l = first_named l.name (nodes_in W l.left) ≡ first_named l.name (nodes_in W l.fn.laid)

abbrev pub decreases-loop-first : goal.decreases-loop-first
decreases-loop-first l = length l.left
