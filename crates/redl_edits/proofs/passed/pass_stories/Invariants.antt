use Rattle.std.proofs.Common.{◌≡◌, ◌++◌}
use Rattle.redl_opc.specs.Stories.{stories_from}
use Rattle.redl_tree.specs.Decisions.Packages.{stories}
use Rattle.redl_edits.specs.Passed.{stories_passed}
use Rattle.redl_edits.proofs.passed.pass_stories.Given as goal

-- what was passed so far, and then what is passed in the stories that are left
abbrev pub invariant-loop-part : goal.invariant-loop-part
invariant-loop-part l = l.out ++ stories_passed (stories_from l.part l.pkg) ≡ l.initial.out ++ stories_passed (stories l.pkg)
