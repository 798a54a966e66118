use Rattle.std.proofs.Common.{◌≡◌, drop, slice_get}
use Rattle.redl_tree.specs.Model.View.{nodes_of}
use Rattle.redl_opc.specs.Elements.{elements_of}
use Rattle.redl_opc.specs.Shape.{is_part}
use Rattle.redl_relations.proofs.parts.element_at.Given as goal
use Rattle.std.specs.List.{list_all}
use Rattle.std.proofs.Common.{true}

-- the element is the one with this number among the nodes that are left
abbrev pub invariant-loop-node : goal.invariant-loop-node
invariant-loop-node l =
    (slice_get (elements_of (nodes_of (drop l.node-index l.nodes))) l.left ≡ slice_get (elements_of (nodes_of l.nodes)) l.number)
    × (list_all is_part (elements_of (nodes_of (drop l.node-index l.nodes))) ≡ true)
