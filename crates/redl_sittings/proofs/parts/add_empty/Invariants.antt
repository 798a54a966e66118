use Rattle.std.proofs.Common.{◌≡◌, ◌++◌, [], length, map}
use Rattle.redl_tree.specs.Model.Folds.{nodes_in}
use Rattle.redl_tree.specs.Model.IdleTexts.{idle_nodes}
use Rattle.redl_tree.specs.declared.kinds.Space.TheVariants.{W}
use Rattle.redl_opc.specs.Elements.{elements_of}
use Rattle.redl_sittings.proofs.parts.add_empty.Given as goal

-- the lists so far and those still to come are those of all
abbrev pub invariant-loop-first : goal.invariant-loop-first
invariant-loop-first l =
    map (λ part. part.items) l.numbers.items ++ map (λ part. []) (elements_of (nodes_in W l.left))
    ≡ map (λ part. part.items) l.initial.numbers.items ++ map (λ part. []) (elements_of (idle_nodes l.plain))

abbrev pub decreases-loop-first : goal.decreases-loop-first
decreases-loop-first l = length l.left
