-- The stories of a package by its parts. `stories` of `redl_tree` finds them by their ancestors: they are the same ones.
use Rattle.std.specs.Prelude.{◌≡◌, ◌<◌, ℕ, List, filter_map, drop, length, option_to_list, Some}
use Rattle.redl_tree.specs.Model.Nodes.{Nodes}
use Rattle.redl_opc.specs.Elements.{Element}
use Rattle.redl_opc.specs.Shape.{parts_of, story_of}
use Rattle.redl_opc.specs.Parts.{part_name, story}

-- the stories of the parts, in the order of the parts
abbrev pub part_stories : Nodes → List Element
part_stories nodes = filter_map story_of (parts_of nodes)

-- the story of a part, in a list of its own; the list is empty if no part has this number, or the part is not a story
abbrev pub stories_of_part : Nodes → ℕ → List Element
stories_of_part nodes number = option_to_list (story nodes number)

-- the stories of the parts from this number on
abbrev pub stories_from : ℕ → Nodes → List Element
stories_from number nodes = filter_map story_of (drop number (parts_of nodes))

-- the package has a part with this number and this name, and the story is that of the part
pub record IsStoryOfPart (nodes : Nodes) (found : Element) (number : ℕ) (name : List ℕ) : Type 0 where
  pub is_part : number < length (parts_of nodes)
  pub has_name : part_name nodes number ≡ Some name
  pub has_story : story nodes number ≡ Some found
