-- What a rule asks: a test of each element, by its ancestors, its own tag and its kids, and questions that several rules put.
use Prim.Native.String.{String}
use Rattle.std.specs.Prelude.{List, ◌∷◌, ◌&&◌, not, Bool, true, false}
use Rattle.std.specs.List.{list_all}
use Rattle.redl_tree.specs.Model.Nodes.{Tag, Nodes, no_nodes, bytes, element}
use Rattle.redl_tree.specs.Model.Kids.{some_element, has_element}
use Rattle.redl_tree.specs.Roles.Names.{is, is_any}
use Rattle.redl_tree.specs.Roles.Places.{is_open}

-- what may be asked of an element, by the tags of its ancestors, its own tag and its kids
abbrev pub Test : Type 0
Test = List Tag → Tag → Nodes → Bool

-- all elements among these nodes pass, at every depth
abbrev pub everywhere : Test → List Tag → Nodes → Bool
everywhere test ancestors no_nodes = true
everywhere test ancestors (bytes b rest) = everywhere test ancestors rest
everywhere test ancestors (element tag kids rest) =
    test ancestors tag kids && everywhere test (tag ∷ ancestors) kids && everywhere test ancestors rest

-- where the first holds, the second does
abbrev pub implies : Bool → Bool → Bool
implies true holds = holds
implies false holds = true

-- an open element with this name
abbrev pub open_one : String → List Tag → Tag → Bool
open_one name ancestors tag = is name tag && is_open ancestors

-- an open element with one of these names
abbrev pub open_any : List String → List Tag → Tag → Bool
open_any names ancestors tag = is_any names tag && is_open ancestors

-- no two elements among these pass
abbrev pub at_most_one : (Tag → Bool) → Nodes → Bool
at_most_one test no_nodes = true
at_most_one test (bytes b rest) = at_most_one test rest
at_most_one test (element tag kids rest) = implies (test tag) (not (some_element test rest)) && at_most_one test rest

-- at most one element has this name
abbrev pub once : String → Nodes → Bool
once name nodes = at_most_one (is name) nodes

-- at most one element has each of these names
abbrev pub each_once : List String → Nodes → Bool
each_once names nodes = list_all (λ name. once name nodes) names

-- no element that passes comes after another element
abbrev pub only_first : (Tag → Bool) → Nodes → Bool
only_first test no_nodes = true
only_first test (bytes b rest) = only_first test rest
only_first test (element tag kids rest) = not (some_element test rest)

-- no element comes after one that passes
abbrev pub only_last : (Tag → Bool) → Nodes → Bool
only_last test no_nodes = true
only_last test (bytes b rest) = only_last test rest
only_last test (element tag kids rest) = implies (test tag) (not (has_element rest)) && only_last test rest
