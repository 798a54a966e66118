-- Leaves: the elements of a list of properties that have no elements in them, each with its path and its attributes. What the leaves
-- with one path set.
use Rattle.std.specs.Prelude.{ℕ, Bool, not, List, [], ◌∷◌, find, reverse, take, bytes_eq, codes, Option, if◌then◌else◌}
use Rattle.std.specs.List.{flat_map, list_any}
use Rattle.std.specs.Option.{option_map}
use Rattle.redl_properties.specs.declared.attribute.Attribute.{Attribute}
use Rattle.redl_properties.specs.declared.attribute.Leaf.{Leaf}

-- the value of the last attribute with this name: a later one takes the place of an earlier one
abbrev pub last_value : List ℕ → List Attribute → Option (List ℕ)
last_value name attributes =
    option_map (λ (attribute : Attribute). attribute.value) (find (λ (attribute : Attribute). bytes_eq attribute.name name) (reverse attributes))

-- an element without attributes sets the value `on`
abbrev pub bare : List Attribute
bare = record { name = codes "val"; value = codes "on" } ∷ []

abbrev pub set_by : List Attribute → List Attribute
set_by [] = bare
set_by (attribute ∷ more) = attribute ∷ more

-- what a leaf sets, where it has this path
abbrev pub set_in : List ℕ → Leaf → List Attribute
set_in path leaf = if bytes_eq leaf.path path then set_by leaf.attributes else []

-- what the leaves with this path set, one after the other
abbrev pub set_at : List ℕ → List Leaf → List Attribute
set_at path leaves = flat_map (set_in path) leaves

-- the attributes of a leaf, where it has this path
abbrev pub leaf_at : List ℕ → Leaf → List (List Attribute)
leaf_at path leaf = if bytes_eq leaf.path path then leaf.attributes ∷ [] else []

-- the attributes of the leaves with this path
abbrev pub leaves_at : List ℕ → List Leaf → List (List Attribute)
leaves_at path leaves = flat_map (leaf_at path) leaves

-- no attribute before this place has this name
abbrev pub comes_first : List ℕ → List Attribute → ℕ → Bool
comes_first name attributes place = not (list_any (λ (attribute : Attribute). bytes_eq attribute.name name) (take place attributes))

-- no leaf before this place has this path
abbrev pub path_comes_first : List ℕ → List Leaf → ℕ → Bool
path_comes_first path leaves place = not (list_any (λ (leaf : Leaf). bytes_eq leaf.path path) (take place leaves))
