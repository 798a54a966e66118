use Rattle.std.proofs.Common.{◌≡◌, ◌++◌}
use Rattle.redl_opc.specs.Stories.{stories_from}
use Rattle.redl_tree.specs.Decisions.Packages.{stories}
use Rattle.redl_edits.specs.Formats.{stories_formats}
use Rattle.redl_edits.proofs.formats.add_stories.Given as goal

-- what was found so far, and then what is in the stories that are left
abbrev pub invariant-loop-part : goal.invariant-loop-part
invariant-loop-part l = l.found.items ++ stories_formats (stories_from l.part l.pkg) ≡ l.initial.found.items ++ stories_formats (stories l.pkg)
