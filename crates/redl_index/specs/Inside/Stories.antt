-- A story whose markers are known, as the code keeps it.
use Rattle.std.specs.Prelude.{ℕ, List, map}
use Rattle.redl_index.specs.declared.story.Story.{Story}

-- the attributes of its markers
abbrev pub tails_in : Story → List (List ℕ)
tails_in story = map (λ tail. tail.now) story.tails.now
