use Rattle.std.proofs.Common.{◌≡◌, ◌++◌, drop}
use Rattle.redl_tree.specs.Model.View.{nodes_of}
use Rattle.redl_sittings.specs.SecondNumbers.{numbers_along}
use Rattle.redl_sittings.proofs.along.+along.Given as goal

-- what was put and what is still to come are what was there and the numbers of all
abbrev pub invariant-add_numbers-loop-node : goal.invariant-add_numbers-loop-node
invariant-add_numbers-loop-node l =
    l.numbers.items ++ numbers_along (nodes_of (drop l.node-index l.nodes)) ≡ l.initial.numbers.items ++ numbers_along (nodes_of l.nodes)
