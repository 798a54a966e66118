use Rattle.std.proofs.Common.{◌≡◌, ◌≤◌, ◌+◌, ◌*◌, ℕ, length}
use Rattle.redl_tree.specs.Model.Folds.{nodes_in}
use Rattle.redl_tree.specs.Model.Nodes.{◌⊕◌}
use Rattle.redl_tree.specs.Model.View.{nodes_of}
use Rattle.redl_tree.specs.declared.kinds.Space.TheVariants.{W}
use Rattle.redl_laid.specs.declared.laid.First.{First}
use Rattle.redl_laid.specs.declared.laid.First.TheVariants.{Bytes, Elem}
use Rattle.redl_leaves.proofs.open.+open.Given as goal

-- the nodes so far and those still to come are all
abbrev pub invariant-open_nodes-loop-first : goal.invariant-open_nodes-loop-first
invariant-open_nodes-loop-first l = record {
  all : nodes_of l.nodes.items ⊕ nodes_in W l.left ≡ nodes_in W l.fn.laid;
  shorter : length l.left ≤ length l.fn.laid;
}

abbrev pub decreases-open_nodes-loop-first : goal.decreases-open_nodes-loop-first
decreases-open_nodes-loop-first l = length l.left

-- three calls go one level down in a text that gets shorter
abbrev pub below : First → ℕ
below (Bytes b) = 0
below (Elem elem) = 3 * length elem.kids + 4

abbrev pub decreases-open_nodes : goal.decreases-open_nodes
decreases-open_nodes l = 3 * length l.laid + 2

abbrev pub decreases-open_first : goal.decreases-open_first
decreases-open_first l = below l.first

abbrev pub decreases-open_elem : goal.decreases-open_elem
decreases-open_elem l = 3 * length l.elem.kids + 3
