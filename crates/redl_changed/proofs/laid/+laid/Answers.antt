-- Node by node, in a text that gets shorter.
use Rattle.std.proofs.Common.{◌≤◌, ◌<◌, ◌+◌, ◌*◌, ℕ, List, length, refl, sym, ap, ◌∙◌, arith}
use Rattle.redl_laid.specs.Firsts.{first_item, AreShorter}
use Rattle.redl_laid.specs.declared.laid.First.{First}
use Rattle.redl_laid.specs.declared.laid.First.TheVariants.{Bytes, Elem}
use Rattle.redl_tree.specs.Model.Folds.{nodes_in}
use Rattle.redl_tree.specs.declared.kinds.Space.TheVariants.{W}
use Rattle.redl_changed.specs.Kept.{kept_after}
use Rattle.redl_changed.specs.Leaves.{leaves_in}
use Rattle.redl_changed.proofs.LeafLaws.{one_more}
use Rattle.redl_changed.proofs.laid.+laid.Invariants.{below}
use Rattle.redl_changed.proofs.laid.+laid.Goals as goal

deeper : (x : First) (rest left all : List ℕ) → AreShorter x rest left → length left ≤ length all → below x < 3 * length all + 2
deeper (Bytes b) rest left all shorter within = omega arith
deeper (Elem elem) rest left all shorter within = omega (arith, shorter.1, within)

later-shorter : (x : First) (rest left : List ℕ) → AreShorter x rest left → length rest < length left
later-shorter (Bytes b) rest left shorter = shorter
later-shorter (Elem elem) rest left shorter = shorter.0

pub push_laid_leaves-push_first_leaves-requires : goal.push_laid_leaves-push_first_leaves-requires
push_laid_leaves-push_first_leaves-requires t c =
    (omega (arith, c.decreases, deeper c.in-Some.first c.in-Some.rest c.loop-first.left c.args.laid c.in-Some.ensures.shorter c.loop-first.invariant.shorter), tt)

pub push_laid_leaves-loop-first-preserved : goal.push_laid_leaves-loop-first-preserved
push_laid_leaves-loop-first-preserved t c = record {
  all = one_more c.args.what c.args.path.now c.loop-first.kept c.push_first_leaves.new.kept _ (first_item c.in-Some.first) (nodes_in W c.loop-first.left) (nodes_in W c.in-Some.rest)
      c.in-Some.ensures.some c.in_ok-push_first_leaves.ensures c.loop-first.invariant.all;
  shorter = omega (arith, later-shorter c.in-Some.first c.in-Some.rest c.loop-first.left c.in-Some.ensures.shorter, c.loop-first.invariant.shorter);
}

pub push_laid_leaves-returns : goal.push_laid_leaves-returns
push_laid_leaves-returns t c =
    sym (ap (λ ns. kept_after c.loop-first.kept (leaves_in c.args.what c.args.path.now ns)) (c.in_default.ensures.none refl)) ∙ c.loop-first.invariant.all
