use Rattle.std.proofs.Common.{◌≡◌}
use Rattle.std.specs.Vec.Iter.{into_iter_items}
use Rattle.redl_tree.specs.Leaves.States.{States, joined_states}
use Rattle.redl_tree.specs.Model.View.{nodes_of}
use Rattle.redl_leaves.specs.Inside.Splits.{lone_states}
use Rattle.redl_leaves.specs.View.{states_of}
use Rattle.redl_leaves.proofs.split.push_each.Given as goal

abbrev pub invariant-loop-node : goal.invariant-loop-node
invariant-loop-node l = (rest : States)
    → joined_states (states_of l.slots.items) (lone_states l.fn.among_blocks (nodes_of (into_iter_items l.node-iterator)) rest)
    ≡ joined_states (states_of l.initial.slots.items) (lone_states l.fn.among_blocks (nodes_of l.fn.nodes.items) rest)
