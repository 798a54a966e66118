use Rattle.std.proofs.Common.{◌≡◌, drop}
use Rattle.redl_tree.specs.Model.View.{kids_of, nodes_of}
use Rattle.redl_hidden_members.specs.Walks.{walked}
use Rattle.redl_hidden_members.proofs.walk.+walk.Given as goal

-- the walk over the nodes that are left comes to the same as that over all of them
abbrev pub invariant-walk_kids-loop-node : goal.invariant-walk_kids-loop-node
invariant-walk_kids-loop-node l =
    walked l.within.styles.now l.within.at (kids_of l.parent) (nodes_of (drop l.node-index l.node-items)) l.walk ≡ walked l.within.styles.now l.within.at (kids_of l.parent) (kids_of l.parent) l.initial.walk
