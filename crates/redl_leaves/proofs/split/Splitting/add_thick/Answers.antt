use Rattle.std.proofs.Common.{None, false, ap, ◌∙◌}
use Rattle.redl_tree.specs.Leaves.Slots.{leaf_of, slots_from}
use Rattle.redl_tree.specs.Leaves.States.{leaf_state, joined_states, fresh_states}
use Rattle.redl_tree.specs.Leaves.Waiting.{slots_left}
use Rattle.redl_tree.specs.Model.Nodes.{no_nodes, in_front}
use Rattle.redl_tree.specs.Model.View.{nodes_of, item_of}
use Rattle.redl_leaves.proofs.SplitLaws.{thick-given}
use Rattle.redl_leaves.specs.Inside.Splits.{chain_of}
use Rattle.redl_leaves.specs.View.{states_of}
use Rattle.redl_leaves.proofs.split.Splitting.add_thick.Goals as goal

pub returns : goal.returns
returns c = λ ancestors later.
    let among = c.args.among_blocks in
    let old = c.args.self.now in
    let node = in_front (item_of c.args.node) no_nodes in
    let rest = fresh_states ancestors (slots_from among None later) in
    ap (λ ch. joined_states (states_of c.push_one.new.slots.items) (fresh_states ancestors (slots_left among (chain_of ch) (nodes_of c.end_chain.new.self.tail.items) later))) c.in_ok-end_chain.ensures.chain
    ∙ c.in_ok-push_one.ensures rest
    ∙ c.in_ok-end_chain.ensures.slots (leaf_state (leaf_of among false node) node rest)
    ∙ ap (joined_states (states_of old.slots.items)) (thick-given ancestors among (chain_of old.chain) (nodes_of old.tail.items) node later)
