use Rattle.std.proofs.Common.{◌≡◌, ◌++◌, drop, map}
use Rattle.redl_tree.specs.Model.View.{nodes_of}
use Rattle.redl_opc.specs.Elements.{elements_of}
use Rattle.redl_opc.specs.Shape.{story_of}
use Rattle.redl_sittings.specs.SecondNumbers.{numbers_below}
use Rattle.redl_sittings.proofs.parts.numbers_of_each.Given as goal

-- the numbers of the parts so far and of those still to come are those of all
abbrev pub invariant-loop-node : goal.invariant-loop-node
invariant-loop-node l =
    map (λ part. part.items) l.numbers.items ++ map (λ part. numbers_below (story_of part)) (elements_of (nodes_of (drop l.node-index l.nodes)))
    ≡ map (λ part. numbers_below (story_of part)) (elements_of (nodes_of l.nodes))
