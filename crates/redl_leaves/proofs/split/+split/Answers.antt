-- What is split of nodes stands for the nodes. It is long because a node is a container, a paragraph, thick, thin or idle.
use Rattle.std.proofs.Common.{◌≡◌, ◌<◌, ◌+◌, ◌^◌, ◌∷◌, ◌++◌, [], true, ◌&&◌, sym, ap, ◌∙◌, arith, if◌then◌else◌}
use Rattle.std.proofs.lemmas.List.{nil_from_length}
use Rattle.std.specs.Vec.Iter.{into_iter_items}
use Rattle.redl_tree.specs.Leaves.Containers.{opens}
use Rattle.redl_tree.specs.Leaves.Living.{owned}
use Rattle.redl_tree.specs.Leaves.Slots.{has_mark, para_sibling, thin_sibling, thick_sibling, open_sibling, siblings, slots_in}
use Rattle.redl_tree.specs.Leaves.States.{no_states, joined_states, fresh_states, fresh_tally}
use Rattle.redl_laws.proofs.Leaves.Joined.{joined-none}
use Rattle.redl_tree.proofs.Model.Laws.{count-in_front}
use Rattle.redl_tree.specs.Model.Count.{count, item_count}
use Rattle.redl_tree.specs.Model.Nodes.{no_nodes, element}
use Rattle.redl_tree.specs.Model.View.{nodes_of, item_of, tag_of, kids_of}
use Rattle.redl_tree.specs.Roles.Lists.{in_blocks, is_block_list, is_thick}
use Rattle.redl_tree.specs.Roles.Names.{is}
use Rattle.redl_leaves.proofs.SplitLaws.{opens-at, list-given, siblings-in_front, idle-thin, fresh-owned_at, owned-within}
use Rattle.redl_leaves.proofs.ViewLaws.{container_of-made}
use Rattle.redl_leaves.specs.Inside.Splits.{chain_of, whole, owned_at}
use Rattle.redl_leaves.specs.Spots.{spot_of, opens_at}
use Rattle.redl_leaves.specs.View.{container_view, states_of}
use Rattle.redl_leaves.proofs.split.+split.Goals as goal

pub split_container-returns : goal.split_container-returns
split_container-returns t c = λ parent above spot_is few.
    let tag = tag_of c.args.elem in
    let kids = kids_of c.args.elem in
    let ancestors = tag ∷ parent ∷ above in
    let inner = slots_in opens ancestors kids in
    let inside : c.inside-inside.result ≡ spot_of ancestors = c.inside-inside.ensures parent above spot_is in
    let fewer : count (nodes_of c.take_kids-kids.result.items) < 2 ^ 32 = omega (arith, few, ap count c.take_kids-kids.ensures.kids) in
    let slots : states_of c.in_ok-slots.slots.items ≡ fresh_states ancestors inner =
    c.in_ok-slots.ensures tag (parent ∷ above) inside fewer ∙ ap (λ ns. fresh_states ancestors (slots_in opens ancestors ns)) c.take_kids-kids.ensures.kids in
    let all : owned_at c.inside-inside.result (states_of c.deref.result.now) ≡ owned ancestors inner =
    ap (λ s. owned_at s (states_of c.deref.result.now)) inside ∙ ap (λ xs. owned_at (spot_of ancestors) (states_of xs)) c.deref.ensures.value
    ∙ ap (owned_at (spot_of ancestors)) slots ∙ fresh-owned_at ancestors inner in
    let number : c.count_owned-owned.result ≡ owned ancestors inner =
    c.count_owned-owned.ensures (omega (arith, all, owned-within ancestors kids, few)) ∙ all in
    container_of-made _
    ∙ ap (λ t. container_view t (fresh_tally c.count_owned-owned.result) (states_of c.in_ok-slots.slots.items)) c.take_kids-kids.ensures.tag
    ∙ ap (λ n. container_view tag (fresh_tally n) (states_of c.in_ok-slots.slots.items)) number
    ∙ ap (container_view tag (fresh_tally (owned ancestors inner))) slots

pub split_elem-returns-then-opens : goal.split_elem-returns-then-opens
split_elem-returns-then-opens t c = λ parent above spot_is few later.
    let ancestors = parent ∷ above in
    let tag = tag_of c.args.elem in
    let kids = kids_of c.args.elem in
    let inner = slots_in opens (tag ∷ ancestors) kids in
    let opened : opens ancestors tag ≡ true = sym (opens-at ancestors tag) ∙ ap (λ s. opens_at s tag) (sym spot_is) ∙ sym c.opens.ensures ∙ c.if-opens.true in
    let added = c.in_ok-add_container.ensures tag kids ancestors (c.in_ok-container.ensures parent above spot_is few) later in
    (rw c.among_blocks.ensures at added)
    ∙ ap (λ b. whole (is_block_list c.args.spot.site.place) ancestors c.args.split.now
    ((if b then open_sibling tag kids inner
    else if is "p" tag && in_blocks ancestors then para_sibling (has_mark kids) (element tag kids no_nodes)
    else if is_thick tag then thick_sibling (element tag kids no_nodes)
    else thin_sibling (element tag kids no_nodes)) ∷ later)) (sym opened)

pub split_kids-returns : goal.split_kids-returns
split_kids-returns t c = λ parent above spot_is few.
    let ancestors = parent ∷ above in
    let among = is_block_list c.args.spot.site.place in
    let split = c.loop-node.split in
    let none : into_iter_items c.loop-node.node-iterator ≡ [] = nil_from_length _ (sym c.loop-node.node-iterator.rest.ok.0 ∙ c.in-None.ensures.steps.0) in
    let last = c.in_ok-end_chain.ensures.slots no_states in
    sym (joined-none (states_of c.end_chain.new.self.slots.items))
    ∙ (rw c.among_blocks.ensures at last)
    ∙ ap (joined_states (states_of split.slots.items)) (list-given ancestors among (chain_of split.chain) (nodes_of split.tail.items))
    ∙ ap (λ xs. whole among ancestors split (siblings opens ancestors (nodes_of xs))) (sym none)
    ∙ c.loop-node.invariant.becomes parent above spot_is few

pub split_kids-loop-node-preserved : goal.split_kids-loop-node-preserved
split_kids-loop-node-preserved t c =
    let among = is_block_list c.args.spot.site.place in
    let old = c.loop-node.split in
    let node = c.in-Some.node in
    let left = into_iter_items c.next.new.self in
    let more = nodes_of left in
    let here : into_iter_items c.loop-node.node-iterator ≡ node ∷ left = c.in-Some.ensures.steps.0 in
    let counted : count (nodes_of (into_iter_items c.loop-node.node-iterator)) ≡ item_count (item_of node) + count more =
    ap (λ xs. count (nodes_of xs)) here ∙ count-in_front (item_of node) more in
    record {
      few = omega (arith, counted, c.loop-node.invariant.few);
      becomes = λ parent above spot_is few.
          let ancestors = parent ∷ above in
          c.in_ok-split_node.ensures parent above spot_is (omega (arith, counted, c.loop-node.invariant.few, few)) (siblings opens ancestors more)
          ∙ ap (whole among ancestors old) (sym (siblings-in_front ancestors (item_of node) more))
          ∙ ap (λ xs. whole among ancestors old (siblings opens ancestors (nodes_of xs))) (sym here)
          ∙ c.loop-node.invariant.becomes parent above spot_is few;
    }

pub split_node-returns-in_ok-add_thin-in-Plain : goal.split_node-returns-in_ok-add_thin-in-Plain
split_node-returns-in_ok-add_thin-in-Plain t c = λ parent above spot_is few later.
    let ancestors = parent ∷ above in
    let added = c.in_ok-add_thin-in-Plain.ensures ancestors later in
    (rw c.among_blocks-in-Plain.ensures at added)
    ∙ ap (λ ss. whole (is_block_list c.args.spot.site.place) ancestors c.args.split.now (ss ++ later)) (idle-thin ancestors c.args.node c.in-Plain.plain c.in-Plain.is)
