use Rattle.std.proofs.Common.{◌≡◌, length}
use Rattle.redl_tree.specs.Model.Folds.{nodes_in}
use Rattle.redl_tree.specs.declared.kinds.Space.TheVariants.{W}
use Rattle.redl_opc.specs.Elements.{elements_of}
use Rattle.redl_opc.proofs.elements.after_element.Given as goal

abbrev pub invariant-loop-first : goal.invariant-loop-first
invariant-loop-first l = elements_of (nodes_in W l.left) ≡ elements_of (nodes_in W l.initial.left)

abbrev pub decreases-loop-first : goal.decreases-loop-first
decreases-loop-first l = length l.left
