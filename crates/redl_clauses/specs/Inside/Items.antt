-- The walk over one node. No idle element changes anything.
use Rattle.redl_lists.specs.declared.table.Tables.{Tables}
use Rattle.redl_tree.specs.Model.Nodes.{Item, bytes_item, element_item, idle_item}
use Rattle.redl_clauses.specs.Walks.{Walk, element_walked}

abbrev pub item_walked : Tables → Item → Walk → Walk
item_walked tables (bytes_item b) w = w
item_walked tables (element_item tag kids) w = element_walked tables tag kids w
item_walked tables (idle_item t) w = w
