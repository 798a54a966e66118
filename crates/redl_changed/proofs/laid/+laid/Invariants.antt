use Rattle.std.proofs.Common.{◌≡◌, ◌≤◌, ◌+◌, ◌*◌, ℕ, length}
use Rattle.redl_tree.specs.Model.Folds.{nodes_in}
use Rattle.redl_tree.specs.declared.kinds.Space.TheVariants.{W}
use Rattle.redl_laid.specs.declared.laid.First.{First}
use Rattle.redl_laid.specs.declared.laid.First.TheVariants.{Bytes, Elem}
use Rattle.redl_changed.specs.Kept.{kept_after}
use Rattle.redl_changed.specs.Leaves.{leaves_in}
use Rattle.redl_changed.proofs.laid.+laid.Given as goal

-- the leaves that are kept so far, and then those of the nodes that are left
abbrev pub invariant-push_laid_leaves-loop-first : goal.invariant-push_laid_leaves-loop-first
invariant-push_laid_leaves-loop-first l = record {
  all : kept_after l.kept (leaves_in l.what l.path (nodes_in W l.left)) ≡ kept_after l.initial.kept (leaves_in l.what l.path (nodes_in W l.fn.laid));
  shorter : length l.left ≤ length l.fn.laid;
}

abbrev pub decreases-push_laid_leaves-loop-first : goal.decreases-push_laid_leaves-loop-first
decreases-push_laid_leaves-loop-first l = length l.left

-- three calls go one level down in a text that gets shorter
abbrev pub below : First → ℕ
below (Bytes b) = 0
below (Elem elem) = 3 * length elem.kids + 4

abbrev pub decreases-push_laid_leaves : goal.decreases-push_laid_leaves
decreases-push_laid_leaves l = 3 * length l.laid + 2

abbrev pub decreases-push_first_leaves : goal.decreases-push_first_leaves
decreases-push_first_leaves l = below l.first

abbrev pub decreases-push_laid_elem_leaves : goal.decreases-push_laid_elem_leaves
decreases-push_laid_elem_leaves l = 3 * length l.elem.kids + 3
