use Rattle.std.proofs.Common.{◌≡◌, ◌++◌, length}
use Rattle.redl_tree.specs.Model.Folds.{nodes_in}
use Rattle.redl_tree.specs.declared.kinds.Space.TheVariants.{W}
use Rattle.redl_lists.specs.Named.{all_named}
use Rattle.redl_lists.specs.Parts.{part_elements}
use Rattle.redl_lists.proofs.part.add_from_rest.Given as goal

-- the parts so far, and then those among the nodes that are left
abbrev pub invariant-loop-first : goal.invariant-loop-first
invariant-loop-first l =
    part_elements l.parts.items ++ all_named l.name (nodes_in W l.left) ≡ part_elements l.initial.parts.items ++ all_named l.name (nodes_in W l.fn.laid)

abbrev pub decreases-loop-first : goal.decreases-loop-first
decreases-loop-first l = length l.left
