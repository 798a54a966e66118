-- What an element, or a node, has of a name at any depth.
use Rattle.std.specs.Prelude.{ℕ, List, Option, None}
use Rattle.redl_reading.specs.Steps.{or_else}
use Rattle.redl_tree.specs.Model.Nodes.{Item, bytes_item, element_item, idle_item}
use Rattle.redl_tree.specs.Model.IdleTexts.{idle_nodes}
use Rattle.redl_tree.specs.Model.View.{Element}
use Rattle.redl_lists.specs.Named.{if_named, first_within}

abbrev pub element_within : List ℕ → Element → Option Element
element_within name e = or_else (if_named name e.tag e.kids) (first_within name e.kids)

abbrev pub item_within : List ℕ → Item → Option Element
item_within name (bytes_item b) = None
item_within name (element_item tag kids) = or_else (if_named name tag kids) (first_within name kids)
item_within name (idle_item t) = first_within name (idle_nodes t)
