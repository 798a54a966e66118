-- The parts of a package by their numbers, which count from 0 in the order of the parts.
use Rattle.std.specs.Prelude.{◌≡◌, ℕ, suc, List, [], ◌∷◌, Option, Some, None, unwrap_or, option_and_then, slice_get, codes, ◌<◌, ◌^◌}
use Rattle.std.specs.Option.{option_map}
use Rattle.redl_tree.specs.Model.Nodes.{Tag, Nodes, no_nodes, bytes, element}
use Rattle.redl_tree.specs.Model.Count.{count}
use Rattle.redl_stamp.specs.Attribute.{attribute_value}
use Rattle.redl_opc.specs.Elements.{Element}
use Rattle.redl_opc.specs.Shape.{package_of, parts_of, story_of, refusal}
use Rattle.redl_tree.specs.Model.Tree.{HasUtf8Tails}

-- the decoded name in a part's tag
abbrev pub name_in : Tag → List ℕ
name_in tag = unwrap_or (attribute_value tag.tail (codes "name")) []

-- the name of a part of a package
abbrev pub part_name : Nodes → ℕ → Option (List ℕ)
part_name nodes number = option_map (λ part. name_in part.tag) (slice_get (parts_of nodes) number)

-- the root of a part that is a story
abbrev pub story : Nodes → ℕ → Option Element
story nodes number = option_and_then story_of (slice_get (parts_of nodes) number)

-- the child elements of an element, each with its place among the kids, counted from `at`, and its name
abbrev pub places_from : ℕ → Nodes → List (ℕ × List ℕ)
places_from at no_nodes = []
places_from at (bytes b rest) = places_from (suc at) rest
places_from at (element tag kids rest) = (at, name_in tag) ∷ places_from (suc at) rest

-- the same for the kids of a root, if there is one
abbrev pub places_in : Option Element → List (ℕ × List ℕ)
places_in None = []
places_in (Some root) = places_from 0 root.kids

-- the same for the parts of a package
abbrev pub places_of : Nodes → List (ℕ × List ℕ)
places_of nodes = places_in (package_of nodes)

-- the invariant of a package: it has the shape, its parts are listed, its tails are UTF-8, and there are fewer than 2^32 nodes
pub record IsKept (nodes : Nodes) (listed : List (ℕ × List ℕ)) : Type 0 where
  pub shape : refusal nodes ≡ None
  pub parts : listed ≡ places_of nodes
  pub tails : HasUtf8Tails nodes
  pub few : count nodes < 2 ^ 32
