-- Whether elements are nested more than so many levels deep, from the front.
use Rattle.std.specs.Prelude.{ℕ, ◌-◌, ◌==◌, Bool, false, ◌||◌}
use Rattle.redl_tree.specs.Model.Nodes.{Nodes, no_nodes, bytes, element}

-- an element stands below so many levels of elements
abbrev pub passes : ℕ → Nodes → Bool
passes levels no_nodes = false
passes levels (bytes b rest) = passes levels rest
passes levels (element tag kids rest) = (levels == 0 || passes (levels - 1) kids) || passes levels rest
