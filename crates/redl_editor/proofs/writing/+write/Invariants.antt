use Rattle.std.proofs.Common.{◌≡◌, List, drop, map}
use Rattle.redl_io.proofs.Puts.{PutsSoFar}
use Rattle.redl_tree.specs.Decisions.Packages.{level_of, stories_in, left_after, changed_in}
use Rattle.redl_tree.specs.Leaves.Shown.{shown_rule}
use Rattle.redl_tree.specs.Model.Nodes.{Tag}
use Rattle.redl_tree.specs.Model.Text.{text}
use Rattle.redl_tree.specs.Model.View.{nodes_of}
use Rattle.redl_editor.specs.Stories.{states_kept}
use Rattle.redl_editor.proofs.writing.+write.Given as goal

abbrev pub invariant-write_among-loop-node : goal.invariant-write_among-loop-node
invariant-write_among-loop-node g l = record {
  text : (ancestors : List Tag) → l.level ≡ level_of ancestors → PutsSoFar g.K.Sink.told g.K.Sink.faults g.K.Sink.settled g.K.Sink.lenders l.initial.out l.out
      (text (changed_in shown_rule (drop l.first (map states_kept l.stories)) ancestors (nodes_of l.nodes)))
      (text (changed_in shown_rule (drop l.next (map states_kept l.stories)) ancestors (nodes_of (drop l.node-index l.nodes))));
  next : (ancestors : List Tag) → l.level ≡ level_of ancestors
      → left_after shown_rule (drop l.next (map states_kept l.stories)) (stories_in ancestors (nodes_of (drop l.node-index l.nodes)))
      ≡ left_after shown_rule (drop l.first (map states_kept l.stories)) (stories_in ancestors (nodes_of l.nodes));
}
