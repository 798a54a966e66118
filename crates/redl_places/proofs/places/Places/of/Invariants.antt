use Rattle.std.proofs.Common.{◌≡◌, ◌++◌}
use Rattle.std.specs.List.{flat_map}
use Rattle.redl_tree.specs.Decisions.Packages.{stories}
use Rattle.redl_opc.specs.Stories.{stories_from}
use Rattle.redl_places.specs.Places.{story_places}
use Rattle.redl_places.specs.Views.{signs_of}
use Rattle.redl_places.proofs.places.Places.of.Given as goal

-- the members so far, and then those of the parts that are left
abbrev pub invariant-loop-part : goal.invariant-loop-part
invariant-loop-part l = l.members.items ++ flat_map (story_places (signs_of l.signs)) (stories_from l.part l.pkg) ≡ flat_map (story_places (signs_of l.signs)) (stories l.pkg)
