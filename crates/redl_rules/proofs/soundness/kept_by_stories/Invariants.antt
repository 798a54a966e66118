use Rattle.redl_rules.proofs.StoryLaws.{IsKeptBelow}
use Rattle.redl_rules.proofs.soundness.kept_by_stories.Given as goal

abbrev pub invariant-loop-part : goal.invariant-loop-part
invariant-loop-part l = IsKeptBelow l.part l.pkg l.kept
