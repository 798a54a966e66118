use Rattle.std.proofs.Common.{◌≤◌}
use Rattle.redl_tree.specs.Model.Count.{count}
use Rattle.redl_opc.proofs.WalkLaws.{count_from}
use Rattle.redl_rules.proofs.StoryLaws.{IsKeptBelow}
use Rattle.redl_index.proofs.StoryFactLaws.{IsKnownBelow}
use Rattle.redl_index.proofs.survey.survey_stories.Given as goal

-- what the stories so far tell, and how many nodes there are in the parts that are left
abbrev pub invariant-loop-part : goal.invariant-loop-part
invariant-loop-part l = record {
  at_most : count_from l.part l.pkg ≤ count l.pkg;
  rules : IsKeptBelow l.part l.pkg l.kept;
  known : IsKnownBelow l.part l.pkg l.known.items;
}
