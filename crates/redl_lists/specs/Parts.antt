-- An element of the code, of the tree or of kept text, as plain data.
use Rattle.std.specs.Prelude.{List, map}
use denote.Ref.{Bor}
use Rattle.redl_tree.specs.Model.View.{Element, tagged, close_of, kids_of}
use Rattle.redl_tree.specs.declared.node.Elem.{Elem}
use Rattle.redl_tree.specs.Model.Folds.{nodes_in}
use Rattle.redl_tree.specs.Model.Nodes.{Nodes, no_nodes, Item, bytes_item, element_item, idle_item}
use Rattle.redl_tree.specs.Model.IdleTexts.{idle_nodes}
use Rattle.redl_tree.specs.declared.kinds.Space.TheVariants.{W}
use Rattle.redl_opc.specs.Elements.{element_of}
use Rattle.redl_laid.specs.declared.laid.LaidElem.{LaidElem}
use Rattle.std.specs.Prelude.{ℕ, [], Option, Some, None}
use Rattle.redl_lists.specs.Named.{if_named, list_if_named, first_named, all_named}
use Rattle.redl_lists.specs.declared.part.Part.{Part}
use Rattle.redl_lists.specs.declared.part.Part.TheVariants.{Tree, Laid}

abbrev pub laid_element : LaidElem → Element
laid_element elem = record { tag = tagged elem.tag (close_of elem.close); kids = nodes_in W elem.kids }

abbrev pub part_element : Part → Element
part_element (Tree elem) = element_of elem.now
part_element (Laid elem) = laid_element elem

abbrev pub part_elements : List Part → List Element
part_elements parts = map part_element parts

-- the kids of an element, if there is one
abbrev pub kids_of_part : Option Part → Nodes
kids_of_part None = no_nodes
kids_of_part (Some part) = (part_element part).kids

abbrev pub held_by : Option (Bor Elem) → Nodes
held_by None = no_nodes
held_by (Some elem) = kids_of elem.now

-- what a node has of a name, by itself
abbrev pub item_first : List ℕ → Item → Option Element
item_first name (bytes_item b) = None
item_first name (element_item tag kids) = if_named name tag kids
item_first name (idle_item t) = first_named name (idle_nodes t)

abbrev pub item_all : List ℕ → Item → List Element
item_all name (bytes_item b) = []
item_all name (element_item tag kids) = list_if_named name tag kids
item_all name (idle_item t) = all_named name (idle_nodes t)
