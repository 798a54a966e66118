-- The stories of a package by its parts: an editor numbers stories, and a package its parts.
use Rattle.std.specs.Prelude.{ℕ, suc, List, [], ◌∷◌, Option, filter_map, is_some, length, take, if◌then◌else◌}
use Rattle.std.specs.Option.{option_map}
use Rattle.redl_opc.specs.Elements.{Element}
use Rattle.redl_opc.specs.Parts.{story}
use Rattle.redl_opc.specs.Shape.{parts_of, story_of}
use Rattle.redl_tree.specs.Model.Nodes.{Nodes}

-- how many of the parts before this one are stories
abbrev pub stories_before : List Element → ℕ → ℕ
stories_before parts part = length (filter_map story_of (take part parts))

-- the number of the story of a part; none where the part is no story, or no part has this number
abbrev pub story_number : Nodes → ℕ → Option ℕ
story_number nodes part = option_map (λ _. stories_before (parts_of nodes) part) (story nodes part)

-- the numbers of those parts that are stories, where the first of these parts has this number
abbrev pub numbers_from : ℕ → List Element → List ℕ
numbers_from number [] = []
numbers_from number (part ∷ later) = if is_some (story_of part) then number ∷ numbers_from (suc number) later else numbers_from (suc number) later

-- the numbers of all parts that are stories, in their order
abbrev pub story_parts : Nodes → List ℕ
story_parts nodes = numbers_from 0 (parts_of nodes)
