use Rattle.std.proofs.Common.{◌≡◌, ◌<◌, ◌≤◌, ◌^◌, List, take, drop}
use Rattle.redl_tree.specs.Decisions.Packages.{level_of, stories_in, changed_in}
use Rattle.redl_tree.specs.Model.Count.{count}
use Rattle.redl_tree.specs.Model.Nodes.{Tag, ◌⊕◌}
use Rattle.redl_tree.specs.Model.View.{nodes_of}
use Rattle.redl_editor.proofs.BegunLaws.{Taken}
use Rattle.redl_editor.specs.Stories.{empty_rule}
use Rattle.redl_editor.proofs.taking.+take.Given as goal

-- what was taken stands in front, and the rest is as it was
abbrev pub invariant-take_among-loop-i : goal.invariant-take_among-loop-i
invariant-take_among-loop-i l = record {
  unvisited : goal.unvisited-take_among-loop-i l;
  nodes : (ancestors : List Tag) → l.level ≡ level_of ancestors
      → nodes_of (take l.i l.nodes) ⊕ changed_in empty_rule tt ancestors (nodes_of (drop l.i l.nodes))
      ≡ changed_in empty_rule tt ancestors (nodes_of l.initial.nodes);
  stories : (ancestors : List Tag) → l.level ≡ level_of ancestors → count (nodes_of l.initial.nodes) < 2 ^ 32
      → Taken (stories_in ancestors (nodes_of l.initial.nodes)) (stories_in ancestors (nodes_of (drop l.i l.nodes))) l.initial.stories.items l.stories.items;
  few : count (nodes_of (drop l.i l.nodes)) ≤ count (nodes_of l.initial.nodes);
}
