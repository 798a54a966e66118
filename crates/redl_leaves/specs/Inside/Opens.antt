-- What is known of a node that was read from a text.
use Rattle.std.specs.Prelude.{◌≡◌, None}
use Rattle.redl_tree.specs.Model.Folds.{nodes_in}
use Rattle.redl_tree.specs.Model.Nodes.{no_nodes}
use Rattle.redl_tree.specs.declared.kinds.Space.TheVariants.{W}
use Rattle.redl_laid.specs.declared.laid.First.{First}
use Rattle.redl_laid.specs.declared.laid.First.TheVariants.{Bytes, Elem}

-- an element that is closed by its start tag has no kids
abbrev pub IsClosed : First → Type 0
IsClosed (Bytes b) = Unit {0}
IsClosed (Elem elem) = elem.close ≡ None → nodes_in W elem.kids ≡ no_nodes
