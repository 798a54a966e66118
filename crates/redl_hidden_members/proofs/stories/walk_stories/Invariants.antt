use Rattle.std.proofs.Common.{◌≡◌}
use Rattle.redl_opc.specs.Stories.{stories_from}
use Rattle.redl_tree.specs.Decisions.Packages.{stories}
use Rattle.redl_hidden_members.specs.Members.{stories_members}
use Rattle.redl_hidden_members.proofs.stories.walk_stories.Given as goal

-- the stories that are left come to the same as all of them
abbrev pub invariant-loop-part : goal.invariant-loop-part
invariant-loop-part l = stories_members l.styles (stories_from l.part l.pkg) l.hidden.items ≡ stories_members l.styles (stories l.pkg) l.initial.hidden.items
