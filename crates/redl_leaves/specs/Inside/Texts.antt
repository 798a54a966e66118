-- What one slot gives to what is written.
use Rattle.std.specs.Prelude.{if◌then◌else◌}
use Rattle.redl_tree.specs.Model.Nodes.{Nodes, no_nodes, element}
use Rattle.redl_tree.specs.Leaves.States.{shown}
use Rattle.redl_leaves.specs.View.{SlotView, leaf_view, container_view}

abbrev pub shown_view : SlotView → Nodes
shown_view (leaf_view leaf present) = present
shown_view (container_view tag tally inner) = if tally.gone then no_nodes else element tag (shown inner) no_nodes
