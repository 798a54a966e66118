use Rattle.std.proofs.Common.{◌∷◌, None, ap, ◌∙◌}
use Rattle.redl_tree.specs.Leaves.Containers.{opens}
use Rattle.redl_tree.specs.Leaves.Living.{owned}
use Rattle.redl_tree.specs.Leaves.Slots.{slots_in, slots_from}
use Rattle.redl_tree.specs.Leaves.States.{container_state, joined_states, fresh_states, fresh_tally}
use Rattle.redl_tree.specs.Leaves.Waiting.{slots_left}
use Rattle.redl_tree.specs.Model.View.{nodes_of}
use Rattle.redl_leaves.proofs.SplitLaws.{open-given}
use Rattle.redl_leaves.proofs.ViewLaws.{states_of-push, view_of-Container}
use Rattle.redl_leaves.specs.Inside.Splits.{chain_of}
use Rattle.redl_leaves.specs.View.{before, container_of, states_of}
use Rattle.redl_leaves.proofs.split.Splitting.add_container.Goals as goal

pub returns : goal.returns
returns c = λ tag kids ancestors is later.
    let among = c.args.among_blocks in
    let old = c.args.self.now in
    let mid = c.end_chain.new.self in
    let inner = slots_in opens (tag ∷ ancestors) kids in
    let rest = fresh_states ancestors (slots_from among None later) in
    ap (λ ch. joined_states (states_of c.push.new.self.items) (fresh_states ancestors (slots_left among (chain_of ch) (nodes_of mid.tail.items) later))) c.in_ok-end_chain.ensures.chain
    ∙ ap (λ xs. joined_states (states_of xs) rest) c.in_ok-push.ensures.items
    ∙ states_of-push mid.slots.items _ rest
    ∙ ap (λ v. joined_states (states_of mid.slots.items) (before v rest)) (view_of-Container _ ∙ ap container_of c.in_ok-container.ensures.ok ∙ is)
    ∙ c.in_ok-end_chain.ensures.slots (container_state tag (fresh_tally (owned (tag ∷ ancestors) inner)) (fresh_states (tag ∷ ancestors) inner) rest)
    ∙ ap (joined_states (states_of old.slots.items)) (open-given ancestors among (chain_of old.chain) (nodes_of old.tail.items) tag kids inner later)
