-- How many nodes there are.
use Rattle.std.specs.Prelude.{ℕ, ◌+◌}
use Rattle.redl_tree.specs.Model.Nodes.{Nodes, no_nodes, bytes, element, Item, bytes_item, element_item, idle_item}
use Rattle.redl_tree.specs.Model.IdleTexts.{idle_nodes}

-- the number of nodes at every depth
abbrev pub count : Nodes → ℕ
count no_nodes = 0
count (bytes b rest) = 1 + count rest
count (element tag kids rest) = 1 + count kids + count rest

-- a node and those below it
abbrev pub item_count : Item → ℕ
item_count (bytes_item b) = 1
item_count (element_item tag kids) = 1 + count kids
item_count (idle_item t) = count (idle_nodes t)
