use Rattle.std.proofs.Common.{◌≡◌, length}
use Rattle.redl_tree.specs.Leaves.States.{States, joined_states}
use Rattle.redl_tree.specs.Model.Folds.{nodes_in}
use Rattle.redl_tree.specs.declared.kinds.Space.TheVariants.{W}
use Rattle.redl_leaves.specs.Inside.Splits.{lone_states}
use Rattle.redl_leaves.specs.View.{states_of}
use Rattle.redl_leaves.proofs.split.push_kept.Given as goal

-- the leaves so far and those still to come are those of all
abbrev pub invariant-loop-first : goal.invariant-loop-first
invariant-loop-first l = (rest : States)
    → joined_states (states_of l.slots.items) (lone_states l.fn.among_blocks (nodes_in W l.left) rest)
    ≡ joined_states (states_of l.initial.slots.items) (lone_states l.fn.among_blocks (nodes_in W l.initial.left) rest)

abbrev pub decreases-loop-first : goal.decreases-loop-first
decreases-loop-first l = length l.left
