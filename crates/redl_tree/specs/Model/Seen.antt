-- The elements of a story, each with its ancestors and the positions of its tags. Positions number the start tags and the
-- end tags of a story in the order of its text, from 0. An element that is closed in its start tag has two positions too.
use Rattle.std.specs.Prelude.{ℕ, ◌+◌, List, [], ◌∷◌, ◌++◌, map}
use Rattle.redl_tree.specs.Model.Nodes.{Tag, Nodes, no_nodes, bytes, element}

-- the number of start tags and end tags, at every depth
abbrev pub tags : Nodes → ℕ
tags no_nodes = 0
tags (bytes b rest) = tags rest
tags (element tag kids rest) = 2 + tags kids + tags rest

-- an element, and the positions of its start tag and of its end tag
pub record Spot : Type 0 where
  pub tag : Tag
  pub kids : Nodes
  pub start : ℕ
  pub end : ℕ

-- an element and its ancestors, the nearest first
pub record Seen : Type 0 where
  pub own : Spot
  pub ancestors : List Spot

-- an element whose start tag has this position
abbrev pub spot : ℕ → Tag → Nodes → Spot
spot at tag kids = record { tag = tag; kids = kids; start = at; end = at + 1 + tags kids }

-- the same with these ancestors
abbrev pub seen_one : List Spot → ℕ → Tag → Nodes → Seen
seen_one ancestors at tag kids = record { own = spot at tag kids; ancestors = ancestors }

-- the elements among nodes with these ancestors, in the order of their start tags, where the first tag has this position
abbrev pub seen_from : List Spot → ℕ → Nodes → List Seen
seen_from ancestors at no_nodes = []
seen_from ancestors at (bytes b rest) = seen_from ancestors at rest
seen_from ancestors at (element tag kids rest) =
    seen_one ancestors at tag kids
    ∷ (seen_from (spot at tag kids ∷ ancestors) (at + 1) kids ++ seen_from ancestors (at + 2 + tags kids) rest)

-- the root of a story, as the list of ancestors of its kids
abbrev pub root_spots : Tag → Nodes → List Spot
root_spots root kids = spot 0 root kids ∷ []

-- the elements of a story below its root
abbrev pub seen : Tag → Nodes → List Seen
seen root kids = seen_from (root_spots root kids) 1 kids

-- the tags of these elements
abbrev pub tags_of : List Spot → List Tag
tags_of spots = map (λ spot. spot.tag) spots
