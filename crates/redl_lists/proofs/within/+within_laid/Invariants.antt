-- Each element is shorter than the nodes that it is the first of.
use Rattle.std.proofs.Common.{◌≡◌, ◌≤◌, ◌*◌, ◌+◌, ℕ, length}
use Rattle.redl_tree.specs.Model.Folds.{nodes_in}
use Rattle.redl_tree.specs.declared.kinds.Space.TheVariants.{W}
use Rattle.redl_lists.specs.Named.{first_within}
use Rattle.redl_laid.specs.declared.laid.First.{First}
use Rattle.redl_laid.specs.declared.laid.First.TheVariants.{Bytes, Elem}
use Rattle.redl_lists.proofs.within.+within_laid.Given as goal

-- how long the text of the kids of a node is
abbrev pub first_size : First → ℕ
first_size (Bytes b) = 0
first_size (Elem elem) = length elem.kids

abbrev pub decreases-within_laid : goal.decreases-within_laid
decreases-within_laid l = 4 * length l.laid.now + 3

abbrev pub decreases-within_rest : goal.decreases-within_rest
decreases-within_rest l = 4 * length l.laid + 3

abbrev pub decreases-within_first : goal.decreases-within_first
decreases-within_first l = 4 * first_size l.first + 5

abbrev pub decreases-within_laid_elem : goal.decreases-within_laid_elem
decreases-within_laid_elem l = 4 * length l.elem.kids + 4

-- the answer is that of the nodes that are left
abbrev pub invariant-within_rest-loop-first : goal.invariant-within_rest-loop-first
invariant-within_rest-loop-first l = record {
  same : first_within l.name (nodes_in W l.left) ≡ first_within l.name (nodes_in W l.fn.laid);
  shorter : length l.left ≤ length l.fn.laid;
}

abbrev pub decreases-within_rest-loop-first : goal.decreases-within_rest-loop-first
decreases-within_rest-loop-first l = length l.left
