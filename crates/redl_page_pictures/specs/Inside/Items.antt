-- What is read of one node of a list. Nothing is read of idle elements.
use Rattle.std.specs.Prelude.{ℕ, List, []}
use Rattle.redl_tree.specs.Model.Nodes.{Item, bytes_item, element_item, idle_item}
use Rattle.redl_tree.specs.Model.View.{Element}

abbrev pub item_list : {X : Type 0} → (Element → List X) → Item → List X
item_list read (bytes_item b) = []
item_list read (element_item tag kids) = read (record { tag = tag; kids = kids })
item_list read (idle_item t) = []

-- the bytes that a node is
abbrev pub item_text : Item → List ℕ
item_text (bytes_item b) = b
item_text (element_item tag kids) = []
item_text (idle_item t) = []
