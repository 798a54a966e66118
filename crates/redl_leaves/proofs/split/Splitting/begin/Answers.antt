use Rattle.std.proofs.Common.{◌∷◌, Some, true, sym, ap, ◌∙◌}
use Rattle.redl_tree.specs.Leaves.Slots.{para_sibling}
use Rattle.redl_tree.specs.Leaves.States.{joined_states, fresh_states}
use Rattle.redl_tree.specs.Model.Nodes.{no_nodes, in_front}
use Rattle.redl_tree.specs.Model.View.{nodes_of, item_of}
use Rattle.redl_laws.proofs.Leaves.Waiting.{marked-begins}
use Rattle.redl_leaves.specs.Inside.Splits.{chain_of, whole_of}
use Rattle.redl_leaves.specs.View.{states_of}
use Rattle.redl_leaves.proofs.split.Splitting.begin.Goals as goal

pub returns-then-marked : goal.returns-then-marked
returns-then-marked c = λ ancestors later.
    let among = c.args.among_blocks in
    let slots = c.args.self.now.slots.items in
    let tail = nodes_of c.args.self.now.tail.items in
    let node = in_front (item_of c.args.node) no_nodes in
    ap (λ xs. whole_of among ancestors slots (Some (nodes_of c.in_ok-one.field-0.items)) (nodes_of xs) later) c.new.ensures.items
    ∙ ap (λ xs. whole_of among ancestors slots (Some (nodes_of xs)) no_nodes later) c.in_ok-one.ensures
    ∙ ap (λ ss. joined_states (states_of slots) (fresh_states ancestors ss)) (sym (marked-begins among node later))
    ∙ ap (λ chain. whole_of among ancestors slots (chain_of chain) tail (para_sibling true node ∷ later)) (sym c.requires)
    ∙ ap (λ marked. whole_of among ancestors slots (chain_of c.args.self.now.chain) tail (para_sibling marked node ∷ later)) (sym c.if-marked.true)
