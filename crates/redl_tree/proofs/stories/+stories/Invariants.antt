use Rattle.std.proofs.Common.{◌≡◌, ◌≤◌, ◌+◌, List, take, drop, true}
use Rattle.redl_tree.specs.Model.Count.{count}
use Rattle.redl_tree.specs.Model.Nodes.{Tag, ◌⊕◌}
use Rattle.redl_tree.specs.Decisions.Packages.{level_of, stories_in, left_after, changed_in}
use Rattle.redl_tree.specs.Decisions.Taken.{TakesAt}
use Rattle.redl_tree.specs.Model.View.{nodes_of}
use Rattle.redl_tree.proofs.stories.+stories.Given as goal

-- what was changed stands in front, and the rest is as it was
abbrev pub invariant-change_among-loop-i : goal.invariant-change_among-loop-i
invariant-change_among-loop-i g l = record {
  unvisited : goal.unvisited-change_among-loop-i g l;
  nodes : (ancestors : List Tag) → l.level ≡ level_of ancestors
      → nodes_of (take l.i l.nodes) ⊕ changed_in g.C.StoryChange.rule (g.C.StoryChange.given l.change l.state) ancestors (nodes_of (drop l.i l.nodes))
      ≡ changed_in g.C.StoryChange.rule (g.C.StoryChange.given l.change l.initial.state) ancestors (nodes_of l.initial.nodes);
  taken : TakesAt g.C.StoryChange.rule g.C.StoryChange.Takes (g.C.StoryChange.given l.change l.state) l.level (λ ancestors. stories_in ancestors (nodes_of (drop l.i l.nodes)));
  left : (ancestors : List Tag) → l.level ≡ level_of ancestors
      → left_after g.C.StoryChange.rule (g.C.StoryChange.given l.change l.state) (stories_in ancestors (nodes_of (drop l.i l.nodes)))
      ≡ left_after g.C.StoryChange.rule (g.C.StoryChange.given l.change l.initial.state) (stories_in ancestors (nodes_of l.initial.nodes));
  entered : g.C.StoryChange.is_counted ≡ true
      → g.C.StoryChange.steps l.state + count (nodes_of (drop l.i l.nodes)) ≤ g.C.StoryChange.steps l.initial.state + count (nodes_of l.initial.nodes);
  made : g.C.StoryChange.is_counted ≡ true
      → g.C.StoryChange.steps l.initial.state + count (nodes_of (take l.i l.nodes)) ≤ g.C.StoryChange.steps l.state;
}
