use Rattle.std.proofs.Common.{◌≡◌, drop}
use Rattle.std.specs.List.{list_all}
use Rattle.redl_tree.specs.Model.View.{nodes_of}
use Rattle.redl_opc.specs.Elements.{elements_of}
use Rattle.redl_opc.specs.Shape.{is_part}
use Rattle.redl_opc.proofs.shape.are_parts.Given as goal

abbrev pub invariant-loop-node : goal.invariant-loop-node
invariant-loop-node l = list_all is_part (elements_of (nodes_of (drop l.node-index l.nodes))) ≡ list_all is_part (elements_of (nodes_of l.nodes))
