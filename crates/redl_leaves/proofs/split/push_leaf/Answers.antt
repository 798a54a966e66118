use Rattle.std.proofs.Common.{ap, ◌∙◌}
use Rattle.redl_tree.specs.Leaves.States.{joined_states}
use Rattle.redl_leaves.proofs.ViewLaws.{states_of-push, view_of-Leaf}
use Rattle.redl_leaves.specs.View.{before, states_of}
use Rattle.redl_leaves.proofs.split.push_leaf.Goals as goal

pub returns-clause-added : goal.returns-clause-added
returns-clause-added c = λ rest.
    ap (λ xs. joined_states (states_of xs) rest) c.in_ok-push.ensures.items
    ∙ states_of-push c.args.slots.now.items _ rest
    ∙ ap (λ v. joined_states (states_of c.args.slots.now.items) (before v rest)) (view_of-Leaf _)
