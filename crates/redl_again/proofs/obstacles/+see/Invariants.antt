use Rattle.std.proofs.Common.{◌≡◌, ◌+◌, ◌-◌, ◌^◌, ◌||◌, ◌&&◌, drop, length, min}
use Rattle.redl_again.specs.Inside.Depth.{passes}
use Rattle.redl_again.specs.Inside.Meeting.{brackets, join_well}
use Rattle.redl_tree.specs.Model.Text.{text}
use Rattle.redl_tree.specs.Model.View.{nodes_of}
use Rattle.redl_again.proofs.obstacles.+see.Given as goal

abbrev pub invariant-see_nodes-loop-node : goal.invariant-see_nodes-loop-node
invariant-see_nodes-loop-node l = record {
  deeper : (l.seen.deeper || passes l.levels (nodes_of (drop l.node-index l.nodes))) ≡ (l.initial.seen.deeper || passes l.levels (nodes_of l.nodes));
  bytes : min (l.seen.bytes + length (text (nodes_of (drop l.node-index l.nodes)))) (2 ^ 64 - 1) ≡ min (l.initial.seen.bytes + length (text (nodes_of l.nodes))) (2 ^ 64 - 1);
  well : (l.seen.well && join_well (brackets l.before.0 l.before.1.0.now) (nodes_of (drop l.node-index l.nodes))) ≡ (l.initial.seen.well && join_well 0 (nodes_of l.nodes));
}
