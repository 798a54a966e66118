use Rattle.std.proofs.Common.{◌≡◌, drop}
use Rattle.redl_tree.specs.Model.View.{nodes_of}
use Rattle.redl_page_numbers.specs.Walks.{walked}
use Rattle.redl_page_numbers.proofs.walk.+walk.Given as goal

-- the walk over the nodes that are left comes to the same as that over all of them
abbrev pub invariant-walk_nodes-loop-node : goal.invariant-walk_nodes-loop-node
invariant-walk_nodes-loop-node l =
    walked l.lists.tables.now l.loud (nodes_of (drop l.node-index l.nodes)) l.walk ≡ walked l.lists.tables.now l.loud (nodes_of l.nodes) l.initial.walk
