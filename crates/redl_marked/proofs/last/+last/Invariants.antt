use Rattle.std.proofs.Common.{◌≡◌, ◌-◌, length, take}
use Rattle.redl_tree.specs.Model.View.{nodes_of}
use Rattle.redl_marked.specs.Inside.Walks.{marked, last_of}
use Rattle.redl_marked.proofs.last.+last.Given as goal

abbrev pub invariant-last_of_nodes-loop-i : goal.invariant-last_of_nodes-loop-i
invariant-last_of_nodes-loop-i l =
    last_of (marked l.above (nodes_of (take (length l.nodes - l.i) l.nodes))) ≡ last_of (marked l.above (nodes_of l.nodes))
