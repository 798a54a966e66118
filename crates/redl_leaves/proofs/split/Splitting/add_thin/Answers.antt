use Rattle.std.proofs.Common.{[], ◌∷◌, ◌++◌, None, ap, sym, ◌∙◌}
use Rattle.redl_tree.specs.Leaves.Slots.{slots_from}
use Rattle.redl_tree.specs.Leaves.States.{joined_states, fresh_states}
use Rattle.redl_tree.specs.Model.View.{nodes_of}
use Rattle.redl_tree.proofs.Model.Laws.{nodes_of-push}
use Rattle.redl_leaves.proofs.SplitLaws.{thin-given, thin-left}
use Rattle.redl_leaves.specs.Inside.Splits.{chain_of, whole_of, thin_siblings}
use Rattle.redl_leaves.specs.View.{states_of}
use Rattle.redl_leaves.proofs.split.Splitting.add_thin.Goals as goal

pub returns-in_ok-push-in-Some : goal.returns-in_ok-push-in-Some
returns-in_ok-push-in-Some c = λ ancestors later.
    let slots = c.args.self.now.slots.items in
    let chain = c.args.self.now.chain in
    let tail = c.args.self.now.tail.items in
    ap (λ ns. whole_of c.args.among_blocks ancestors slots (chain_of chain) ns later) (ap nodes_of c.in_ok-push-in-Some.ensures.items ∙ nodes_of-push tail c.args.node)
    ∙ ap (λ ss. joined_states (states_of slots) (fresh_states ancestors ss)) (thin-left c.args.among_blocks chain _ (nodes_of tail) (nodes_of (c.args.node ∷ [])) later c.in-Some.is)

pub returns-in_ok-push_lone-in-None : goal.returns-in_ok-push_lone-in-None
returns-in_ok-push_lone-in-None c = λ ancestors later.
    let among = c.args.among_blocks in
    let slots = c.args.self.now.slots.items in
    let tail = nodes_of c.args.self.now.tail.items in
    let nodes = nodes_of (c.args.node ∷ []) in
    ap (λ chain. whole_of among ancestors c.push_lone.new.slots.items (chain_of chain) tail later) c.in-None.is
    ∙ c.in_ok-push_lone-in-None.ensures (fresh_states ancestors (slots_from among None later))
    ∙ ap (joined_states (states_of slots)) (thin-given ancestors among nodes later)
    ∙ ap (λ chain. whole_of among ancestors slots (chain_of chain) tail (thin_siblings nodes ++ later)) (sym c.in-None.is)
