use Rattle.std.proofs.Common.{◌≡◌, ◌∷◌, None, Some, false, sym, ap, ◌∙◌}
use Rattle.redl_tree.specs.Leaves.Slots.{para_sibling, leaf_of, slots_from}
use Rattle.redl_tree.specs.Leaves.States.{leaf_state, joined_states, fresh_states}
use Rattle.redl_tree.specs.Leaves.Waiting.{slots_left}
use Rattle.redl_tree.specs.Model.Nodes.{no_nodes, in_front, ◌⊕◌}
use Rattle.redl_tree.specs.Model.View.{nodes_of, item_of}
use Rattle.redl_tree.proofs.Model.Laws.{nodes_of-push, nodes_of-append}
use Rattle.redl_laws.proofs.Leaves.Waiting.{marked-goes_on}
use Rattle.redl_leaves.specs.Inside.Splits.{chain_of, whole_of}
use Rattle.redl_leaves.specs.View.{states_of}
use Rattle.redl_leaves.proofs.split.Splitting.go_on.Goals as goal

pub returns-then-marked : goal.returns-then-marked
returns-then-marked c = λ ancestors later.
    let slots = c.args.self.now.slots.items in
    let chain = nodes_of c.args.chain.items in
    let tail = nodes_of c.args.self.now.tail.items in
    let node = in_front (item_of c.args.node) no_nodes in
    let chain_is : nodes_of c.push.new.self.items ≡ (chain ⊕ tail) ⊕ node =
    ap nodes_of c.in_ok-push.ensures.items ∙ nodes_of-push c.append.new.self.items c.args.node
    ∙ ap (λ ns. ns ⊕ node) (ap nodes_of c.in_ok-append.ensures.items ∙ nodes_of-append c.args.chain.items c.args.self.now.tail.items) in
    ap (λ ns. whole_of c.args.among_blocks ancestors slots (Some ns) (nodes_of c.append.new.other.items) later) chain_is
    ∙ ap (λ xs. whole_of c.args.among_blocks ancestors slots (Some ((chain ⊕ tail) ⊕ node)) (nodes_of xs) later) c.in_ok-append.ensures.other_items
    ∙ ap (λ ss. joined_states (states_of slots) (fresh_states ancestors ss)) (sym (marked-goes_on c.args.among_blocks chain tail node later))
    ∙ ap (λ marked. whole_of c.args.among_blocks ancestors slots (Some chain) tail (para_sibling marked node ∷ later)) (sym c.if-marked.true)

pub returns : goal.returns
returns c = λ ancestors later.
    let slots = c.args.self.now.slots.items in
    let chain = nodes_of c.args.chain.items in
    let tail = nodes_of c.args.self.now.tail.items in
    let node = in_front (item_of c.args.node) no_nodes in
    let among = c.args.among_blocks in
    let rest = fresh_states ancestors (slots_from among None later) in
    let chain_is : nodes_of c.push.new.self.items ≡ (chain ⊕ tail) ⊕ node =
    ap nodes_of c.in_ok-push.ensures.items ∙ nodes_of-push c.append.new.self.items c.args.node
    ∙ ap (λ ns. ns ⊕ node) (ap nodes_of c.in_ok-append.ensures.items ∙ nodes_of-append c.args.chain.items c.args.self.now.tail.items) in
    ap (λ ch. joined_states (states_of c.push_leaf.new.slots.items) (fresh_states ancestors (slots_left among (chain_of ch) (nodes_of c.append.new.other.items) later))) c.requires
    ∙ c.in_ok-push_leaf.ensures.added rest
    ∙ ap (λ ns. joined_states (states_of slots) (leaf_state (leaf_of among false ns) ns rest)) chain_is
    ∙ ap (λ marked. whole_of among ancestors slots (Some chain) tail (para_sibling marked node ∷ later)) (sym c.if-marked.false)
