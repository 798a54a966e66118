-- How many elements there are.
use Rattle.std.specs.Prelude.{ℕ, ◌+◌}
use Rattle.redl_tree.specs.Model.Lists.{Nodes, no_nodes, bytes, element}

-- the number of elements at every depth
abbrev pub elements : Nodes → ℕ
elements no_nodes = 0
elements (bytes b rest) = elements rest
elements (element tag kids rest) = 1 + elements kids + elements rest
