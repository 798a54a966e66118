use Rattle.std.proofs.Common.{◌≤◌, ◌+◌, ◌*◌, length}
use Rattle.redl_idle.specs.Ahead.{Begins}
use Rattle.redl_idle.proofs.ShowLaws.{IsLeft}
use Rattle.redl_idle.proofs.walk.+show.Given as goal

abbrev pub decreases-show_nodes : goal.decreases-show_nodes
decreases-show_nodes g l = 3 * length l.text.now

abbrev pub decreases-show_elem : goal.decreases-show_elem
decreases-show_elem g l = 3 * length l.rest.now + 1

abbrev pub decreases-show_node : goal.decreases-show_node
decreases-show_node g l = 3 * length l.rest.now + 2

abbrev pub decreases-show_nodes-loop-left : goal.decreases-show_nodes-loop-left
decreases-show_nodes-loop-left g l = length l.left

abbrev pub invariant-show_nodes-loop-left : goal.invariant-show_nodes-loop-left
invariant-show_nodes-loop-left g l = record {
  short : length l.left ≤ length l.text;
  begins : (begin : Begins l.text) → IsLeft g.S.Shows.taking g.S.Shows.rule l.below l.initial.out l.out l.text l.left begin;
}
