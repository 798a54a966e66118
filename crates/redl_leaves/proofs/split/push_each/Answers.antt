use Rattle.std.proofs.Common.{◌≡◌, [], ◌∷◌, sym, ap, ◌∙◌}
use Rattle.std.proofs.lemmas.List.{nil_from_length}
use Rattle.std.specs.Vec.Iter.{into_iter_items}
use Rattle.redl_tree.specs.Leaves.States.{joined_states}
use Rattle.redl_tree.specs.Model.View.{nodes_of, item_of}
use Rattle.redl_leaves.proofs.SplitLaws.{lone-in_front}
use Rattle.redl_leaves.specs.Inside.Splits.{lone_states}
use Rattle.redl_leaves.specs.View.{states_of}
use Rattle.redl_leaves.proofs.split.push_each.Goals as goal

pub loop-node-preserved : goal.loop-node-preserved
loop-node-preserved c = λ rest.
    let node = c.in-Some.node in
    let more = nodes_of (into_iter_items c.next.new.self) in
    let here : into_iter_items c.loop-node.node-iterator ≡ node ∷ into_iter_items c.next.new.self = c.in-Some.ensures.steps.0 in
    let before = states_of c.loop-node.slots.items in
    c.in_ok-push_lone.ensures (lone_states c.args.among_blocks more rest)
    ∙ ap (joined_states before) (sym (lone-in_front c.args.among_blocks (item_of node) more rest))
    ∙ ap (λ xs. joined_states before (lone_states c.args.among_blocks (nodes_of xs) rest)) (sym here)
    ∙ c.loop-node.invariant rest

pub returns : goal.returns
returns c = λ rest.
    let none : into_iter_items c.loop-node.node-iterator ≡ [] = nil_from_length _ (sym c.loop-node.node-iterator.rest.ok.0 ∙ c.in-None.ensures.steps.0) in
    ap (λ xs. joined_states (states_of c.loop-node.slots.items) (lone_states c.args.among_blocks (nodes_of xs) rest)) (sym none)
    ∙ c.loop-node.invariant rest
