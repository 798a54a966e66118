use Rattle.std.proofs.Common.{◌≡◌, ◌+◌, ◌++◌, ◌≤◌, length, map, drop}
use Rattle.redl_tree.specs.Model.Count.{count}
use Rattle.redl_opc.specs.Shape.{parts_of}
use Rattle.redl_opc.specs.Stories.{stories_from}
use Rattle.redl_opc.proofs.WalkLaws.{count_from}
use Rattle.redl_index.specs.StoryFacts.{facts_of, facts_in}
use Rattle.redl_index.specs.Revisions.{numbered, revisions_from, revisions_of}
use Rattle.redl_index.proofs.find.find_in_stories.Given as goal

-- what is in the parts so far is found, and what is in the parts that are left is to come after it
abbrev pub invariant-loop-part : goal.invariant-loop-part
invariant-loop-part l = record {
  at_most : length l.found.index + count_from l.part l.pkg ≤ count l.pkg;
  found : l.found.index ++ numbered (1 + length l.found.index) (revisions_from l.part (drop l.part (parts_of l.pkg))) ≡ revisions_of l.pkg;
  known : map facts_of (drop l.place l.known) ≡ map facts_in (stories_from l.part l.pkg);
}
