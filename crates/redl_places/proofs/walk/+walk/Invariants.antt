use Rattle.std.proofs.Common.{◌≡◌, ◌++◌, drop}
use Rattle.redl_tree.specs.Model.View.{nodes_of}
use Rattle.redl_places.specs.Places.{member_places}
use Rattle.redl_places.specs.Views.{signs_of}
use Rattle.redl_places.proofs.walk.+walk.Given as goal

-- what was found so far, and then what is among the nodes that are left
abbrev pub invariant-add_nodes-loop-node : goal.invariant-add_nodes-loop-node
invariant-add_nodes-loop-node l =
    l.members.items ++ member_places (signs_of l.signs) l.here (nodes_of (drop l.node-index l.nodes)) ≡ l.initial.members.items ++ member_places (signs_of l.signs) l.here (nodes_of l.nodes)
