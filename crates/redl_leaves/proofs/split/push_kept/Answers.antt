use Rattle.std.proofs.Common.{false, sym, ap, ◌∙◌}
use Rattle.redl_tree.specs.Leaves.Slots.{leaf_of}
use Rattle.redl_tree.specs.Leaves.States.{leaf_state, joined_states}
use Rattle.redl_tree.specs.Model.Folds.{nodes_in}
use Rattle.redl_tree.specs.Model.Nodes.{no_nodes, in_front}
use Rattle.redl_tree.specs.declared.kinds.Space.TheVariants.{W}
use Rattle.redl_leaves.proofs.OpenLaws.{closed_first}
use Rattle.redl_leaves.proofs.SplitLaws.{lone-step}
use Rattle.redl_leaves.specs.Inside.Splits.{lone_states}
use Rattle.redl_leaves.specs.View.{states_of}
use Rattle.redl_leaves.proofs.split.push_kept.Goals as goal

pub open_first-requires : goal.open_first-requires
open_first-requires c = closed_first c.loop-first.left c.in-Some.first (nodes_in W c.in-Some.rest) c.in-Some.ensures.some

pub loop-first-preserved : goal.loop-first-preserved
loop-first-preserved c = λ later.
    let among = c.args.among_blocks in
    let slots = states_of c.loop-first.slots.items in
    let left = lone_states among (nodes_in W c.in-Some.rest) later in
    c.in_ok-push_one.ensures left
    ∙ ap (λ x. joined_states slots (leaf_state (leaf_of among false (in_front x no_nodes)) (in_front x no_nodes) left)) c.in_ok-node.ensures
    ∙ ap (joined_states slots) (sym (lone-step among c.in-Some.first (nodes_in W c.in-Some.rest) later))
    ∙ ap (λ ns. joined_states slots (lone_states among ns later)) (sym c.in-Some.ensures.some)
    ∙ c.loop-first.invariant later
