use Rattle.std.proofs.Common.{◌≡◌}
use Rattle.redl_opc.specs.Stories.{stories_from}
use Rattle.redl_tree.specs.Decisions.Packages.{stories}
use Rattle.redl_spans.specs.Stories.{stories_walked}
use Rattle.redl_spans.proofs.stories.walk_stories.Given as goal

-- the walk over the stories that are left comes to the same as that over all of them
abbrev pub invariant-loop-part : goal.invariant-loop-part
invariant-loop-part l = stories_walked (stories_from l.part l.pkg) l.walk ≡ stories_walked (stories l.pkg) l.initial.walk
