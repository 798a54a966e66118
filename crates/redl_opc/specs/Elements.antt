-- The elements among the nodes of a list.
use Rattle.std.specs.Prelude.{List, [], ◌∷◌, Option, Some, None}
use Rattle.redl_tree.specs.Model.Nodes.{Nodes, no_nodes, bytes, element, Item, bytes_item, element_item, idle_item}
use Rattle.redl_tree.specs.Model.View.{tag_of, kids_of}
pub use Rattle.redl_tree.specs.Model.View.{Element}
use Rattle.redl_tree.specs.declared.node.Elem.{Elem}

-- an element of the code as plain data
abbrev pub element_of : Elem → Element
element_of e = record { tag = tag_of e; kids = kids_of e }

abbrev pub element_in : Option Item → Option Element
element_in None = None
element_in (Some (bytes_item b)) = None
element_in (Some (element_item tag kids)) = Some (record { tag = tag; kids = kids })
element_in (Some (idle_item t)) = None

-- the elements of a list of nodes, without those inside them
abbrev pub elements_of : Nodes → List Element
elements_of no_nodes = []
elements_of (bytes b rest) = elements_of rest
elements_of (element tag kids rest) = record { tag = tag; kids = kids } ∷ elements_of rest

abbrev pub only : {A : Type 0} → List A → Option A
only [] = None
only (x ∷ []) = Some x
only (x ∷ y ∷ more) = None

-- the only element of a list of nodes; none if it has no element, or several
abbrev pub only_element : Nodes → Option Element
only_element nodes = only (elements_of nodes)
