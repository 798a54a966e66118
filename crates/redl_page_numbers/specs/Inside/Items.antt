-- The walk over one node. No idle element changes anything.
use Rattle.std.specs.Prelude.{Bool}
use Rattle.redl_lists.specs.declared.table.Tables.{Tables}
use Rattle.redl_tree.specs.Model.Nodes.{Item, bytes_item, element_item, idle_item}
use Rattle.redl_page_numbers.specs.Walks.{Walk, element_walked}

abbrev pub item_walked : Tables → Bool → Item → Walk → Walk
item_walked tables loud (bytes_item b) w = w
item_walked tables loud (element_item tag kids) w = element_walked tables loud tag kids w
item_walked tables loud (idle_item t) w = w
