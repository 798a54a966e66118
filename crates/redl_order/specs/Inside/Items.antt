-- What the code finds in one node of a list.
use Rattle.std.specs.Prelude.{List, [], ◌∷◌, ◌++◌, if◌then◌else◌}
use Rattle.redl_tree.specs.Model.Nodes.{Tag, Nodes, Item, bytes_item, element_item, idle_item}
use Rattle.redl_tree.specs.Model.IdleTexts.{idle_nodes}
use Rattle.redl_tree.specs.Model.View.{Element}
use Rattle.redl_tree.specs.Roles.Names.{named}
use Rattle.redl_order.specs.References.{named_of, references}
use Rattle.redl_order.specs.Order.{local_name}
use Rattle.redl_order.specs.declared.reference.Named.{Named}
use Rattle.redl_order.specs.declared.reference.Reference.{Reference}

abbrev pub item_references : Item → List Reference
item_references (bytes_item b) = []
item_references (element_item tag kids) = named_of tag ++ references kids
item_references (idle_item t) = references (idle_nodes t)

-- the note that an element is, if it is one of this kind
abbrev pub element_notes : Named → Tag → Nodes → List Element
element_notes note tag kids = if named (local_name note) tag then record { tag = tag; kids = kids } ∷ [] else []

abbrev pub item_notes : Named → Item → List Element
item_notes note (bytes_item b) = []
item_notes note (element_item tag kids) = element_notes note tag kids
item_notes note (idle_item t) = []
