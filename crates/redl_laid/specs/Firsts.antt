-- The first of some nodes that are read from their text, as plain data.
use Rattle.std.specs.Prelude.{ℕ, ◌<◌, List, length}
use Rattle.redl_tree.specs.Model.Nodes.{Item, bytes_item, element_item}
use Rattle.redl_tree.specs.Model.View.{tagged, close_of}
use Rattle.redl_tree.specs.Model.Folds.{nodes_in}
use Rattle.redl_tree.specs.declared.kinds.Space.TheVariants.{W}
use Rattle.redl_laid.specs.declared.laid.First.{First}
use Rattle.redl_laid.specs.declared.laid.First.TheVariants.{Bytes, Elem}

-- the node that was read first
abbrev pub first_item : First → Item
first_item (Bytes b) = bytes_item b.now
first_item (Elem elem) = element_item (tagged elem.tag (close_of elem.close)) (nodes_in W elem.kids)

-- its kids and those after it have shorter texts
abbrev pub AreShorter : First → List ℕ → List ℕ → Type 0
AreShorter (Bytes b) rest t = length rest < length t
AreShorter (Elem elem) rest t = (length rest < length t) × (length elem.kids < length t)
