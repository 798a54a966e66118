use Rattle.std.proofs.Common.{◌≤◌, ◌<◌, ◌+◌, ◌*◌, ℕ, List, length, refl, sym, ap, ◌∙◌, arith}
use Rattle.redl_laid.specs.Firsts.{first_item, AreShorter}
use Rattle.redl_tree.specs.Model.Folds.{nodes_in}
use Rattle.redl_tree.specs.Model.Nodes.{no_nodes, in_front, ◌⊕◌}
use Rattle.redl_tree.specs.Model.View.{nodes_of}
use Rattle.redl_tree.specs.declared.kinds.Space.TheVariants.{W}
use Rattle.redl_laid.specs.declared.laid.First.{First}
use Rattle.redl_laid.specs.declared.laid.First.TheVariants.{Bytes, Elem}
use Rattle.redl_tree.proofs.Model.Laws.{nodes_of-push, ⊕-no_nodes, in_front-⊕, built_more}
use Rattle.redl_leaves.proofs.OpenLaws.{closed_first}
use Rattle.redl_leaves.proofs.open.+open.Invariants.{below}
use Rattle.redl_leaves.proofs.open.+open.Goals as goal

deeper : (x : First) (rest left all : List ℕ) → AreShorter x rest left → length left ≤ length all → below x < 3 * length all + 2
deeper (Bytes b) rest left all shorter within = omega arith
deeper (Elem elem) rest left all shorter within = omega (arith, shorter.1, within)

later-shorter : (x : First) (rest left : List ℕ) → AreShorter x rest left → length rest < length left
later-shorter (Bytes b) rest left shorter = shorter
later-shorter (Elem elem) rest left shorter = shorter.0

pub open_nodes-open_first-requires : goal.open_nodes-open_first-requires
open_nodes-open_first-requires t c =
    let first = c.in-Some.first in
    let left = c.loop-first.left in (
      omega (arith, c.decreases, deeper first c.in-Some.rest left c.args.laid c.in-Some.ensures.shorter c.loop-first.invariant.shorter),
      closed_first left first (nodes_in W c.in-Some.rest) c.in-Some.ensures.some,
    )

pub open_nodes-loop-first-preserved : goal.open_nodes-loop-first-preserved
open_nodes-loop-first-preserved t c =
    let made = c.loop-first.nodes.items in
    let x = first_item c.in-Some.first in
    let rest = nodes_in W c.in-Some.rest in
    record {
      all = built_more (nodes_of made) (in_front x no_nodes) rest
          (ap nodes_of c.in_ok-push.ensures.items ∙ nodes_of-push made c.in_ok-open_first.field-0 ∙ ap (λ y. nodes_of made ⊕ in_front y no_nodes) c.in_ok-open_first.ensures)
          (c.in-Some.ensures.some ∙ sym (in_front-⊕ x no_nodes rest))
          c.loop-first.invariant.all;
      shorter = omega (arith, later-shorter c.in-Some.first c.in-Some.rest c.loop-first.left c.in-Some.ensures.shorter, c.loop-first.invariant.shorter);
    }

pub open_nodes-returns : goal.open_nodes-returns
open_nodes-returns t c =
    let made = nodes_of c.loop-first.nodes.items in
    sym (⊕-no_nodes made) ∙ ap (λ ns. made ⊕ ns) (sym (c.in_default.ensures.none refl)) ∙ c.loop-first.invariant.all
