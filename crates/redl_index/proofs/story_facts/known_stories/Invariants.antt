use Rattle.std.proofs.Common.{◌≤◌}
use Rattle.redl_tree.specs.Model.Count.{count}
use Rattle.redl_opc.proofs.WalkLaws.{count_from}
use Rattle.redl_index.proofs.StoryFactLaws.{IsKnownBelow}
use Rattle.redl_index.proofs.story_facts.known_stories.Given as goal

-- what is known of the stories so far, and how many nodes there are in the parts that are left
abbrev pub invariant-loop-part : goal.invariant-loop-part
invariant-loop-part l = record {
  at_most : count_from l.part l.pkg ≤ count l.pkg;
  known : IsKnownBelow l.part l.pkg l.known.items;
}
