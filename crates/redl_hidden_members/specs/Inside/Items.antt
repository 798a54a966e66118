-- The walk over one node. Idle elements tell whether there is a hidden unit among them.
use Rattle.redl_tree.specs.Model.IdleTexts.{idle_nodes}
use Rattle.redl_tree.specs.Model.Nodes.{Nodes, Item, bytes_item, element_item, idle_item}
use Rattle.redl_hidden.specs.Styles.{HiddenStyles}
use Rattle.redl_hidden_members.specs.Walks.{Walk, bytes_walked, element_walked, walked}
use Rattle.redl_hidden_members.specs.declared.around.Around.{Around}

abbrev pub item_walked : HiddenStyles → Around → Nodes → Item → Walk → Walk
item_walked styles at properties (bytes_item b) w = bytes_walked at b w
item_walked styles at properties (element_item tag kids) w = element_walked styles at properties tag kids w
item_walked styles at properties (idle_item t) w = walked styles at properties (idle_nodes t) w
