-- The nodes of a text of idle elements.
use Rattle.std.specs.Prelude.{ℕ, Bool, ◌&&◌, ◌==◌, not, List, codes, if◌then◌else◌}
use Rattle.redl_tree.specs.Model.Lists.{Nodes, no_nodes, element}
use Rattle.redl_tree.specs.Model.Elements.{elements}
use Rattle.redl_tree.specs.Model.Folds.{nodes_at, nodes_in}
use Rattle.redl_tree.specs.Roles.Names.{of_w}
use Rattle.redl_tree.specs.Roles.Idle.{is_idle}
use Rattle.redl_tree.specs.declared.kinds.Space.TheVariants.{W}
use Rattle.redl_grammar.specs.References.{is_there}

-- a text that is read to its end as idle nodes of W with an element among them
abbrev pub is_idle_text : List ℕ → Bool
is_idle_text t = is_there (nodes_at W t) && (is_idle (nodes_in W t) && not (elements (nodes_in W t) == 0))

-- The nodes that it is. A `Plain` keeps such texts alone, so what stands here for others is never met; it is idle too, so that of any
-- list of nodes it is known, whoever made it, that nothing is found in what it keeps as text.
unfoldable pub idle_nodes : List ℕ → Nodes
idle_nodes t = if is_idle_text t then nodes_in W t else element (of_w (codes "r")) no_nodes no_nodes
