-- Elements among nodes by their names. The first of a name holds.
use Rattle.std.specs.Prelude.{ℕ, List, [], ◌∷◌, ◌++◌, Option, Some, None, if◌then◌else◌}
use Rattle.redl_reading.specs.Steps.{or_else}
use Rattle.redl_tree.specs.Model.Nodes.{Tag, Nodes, no_nodes, bytes, element}
use Rattle.redl_tree.specs.Model.View.{Element}
use Rattle.redl_tree.specs.Roles.Names.{named}

-- an element by itself, if it has this name in W
abbrev pub if_named : List ℕ → Tag → Nodes → Option Element
if_named name tag kids = if named name tag then Some (record { tag = tag; kids = kids }) else None

abbrev pub list_if_named : List ℕ → Tag → Nodes → List Element
list_if_named name tag kids = if named name tag then record { tag = tag; kids = kids } ∷ [] else []

-- the first with this name
abbrev pub first_named : List ℕ → Nodes → Option Element
first_named name no_nodes = None
first_named name (bytes b rest) = first_named name rest
first_named name (element tag kids rest) = or_else (if_named name tag kids) (first_named name rest)

-- all with this name
abbrev pub all_named : List ℕ → Nodes → List Element
all_named name no_nodes = []
all_named name (bytes b rest) = all_named name rest
all_named name (element tag kids rest) = list_if_named name tag kids ++ all_named name rest

-- the first with this name at any depth, in the order of start tags
abbrev pub first_within : List ℕ → Nodes → Option Element
first_within name no_nodes = None
first_within name (bytes b rest) = first_within name rest
first_within name (element tag kids rest) = or_else (or_else (if_named name tag kids) (first_within name kids)) (first_within name rest)
