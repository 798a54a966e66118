-- Node by node.
use Rattle.std.proofs.Common.{◌+◌, ◌++◌, ap, sym, ◌∙◌, arith, drop, List, append_assoc, append-nil}
use Rattle.std.proofs.lemmas.Result.{on_ok_weaker}
use Rattle.redl_tree.specs.Model.Nodes.{Nodes}
use Rattle.redl_tree.specs.Model.View.{nodes_of, item_of, tag_of, kids_of}
use Rattle.redl_tree.proofs.Model.Laws.{nodes_here, nodes_end}
use Rattle.redl_spans.specs.Inside.Items.{item_members}
use Rattle.redl_spans.specs.Members.{members, own_member}
use Rattle.redl_spans.specs.declared.member.Member.{Member}
use Rattle.redl_spans.proofs.MemberLaws.{members-in_front}
use Rattle.redl_spans.proofs.members.+members.Goals as goal

pub add_elem-returns : goal.add_elem-returns
add_elem-returns t c =
    let elem = c.args.elem.now in
    let old = c.args.found.now.items in
    let own = own_member (tag_of elem) in
    on_ok_weaker c.add_members.result (λ e. e
    ∙ ap (λ (ms : List Member). ms ++ members (nodes_of c.kids.result.now)) c.in_ok-add_own.ensures
    ∙ ap (λ (nodes : Nodes). (old ++ own) ++ members nodes) c.kids.ensures.kids
    ∙ append_assoc old own (members (kids_of elem))) c.add_members.ensures

pub add_members-loop-node-preserved : goal.add_members-loop-node-preserved
add_members-loop-node-preserved t c =
    let items = c.args.nodes.now in
    let i = c.loop-node.node-index in
    let x = c.node-item.result in
    let more = nodes_of (drop (i + 1) items) in
    let old = c.loop-node.found.items in
    let here = nodes_here items i x (omega arith) c.node-item.is in
    ap (λ (ms : List Member). ms ++ members more) c.in_ok-add_node.ensures
    ∙ append_assoc old (item_members (item_of x)) (members more)
    ∙ ap (λ (ms : List Member). old ++ ms) (sym (ap members here ∙ members-in_front (item_of x) more))
    ∙ c.loop-node.invariant

pub add_members-returns : goal.add_members-returns
add_members-returns t c =
    let end = nodes_end c.args.nodes.now c.loop-node.node-index (omega arith) in
    let now = c.loop-node.found.items in
    sym (ap (λ (ns : Nodes). now ++ members ns) end ∙ append-nil now)
    ∙ c.loop-node.invariant
