-- Node by node.
use Rattle.std.proofs.Common.{◌+◌, ◌++◌, ap, sym, ◌∙◌, arith, drop, List, append_assoc, append-nil}
use Rattle.redl_tree.specs.Model.Nodes.{Nodes}
use Rattle.redl_tree.specs.Model.View.{nodes_of, item_of}
use Rattle.redl_tree.proofs.Model.Laws.{nodes_here, nodes_end}
use Rattle.redl_spans.specs.Inside.Items.{item_property_members}
use Rattle.redl_spans.specs.Members.{property_members}
use Rattle.redl_spans.specs.declared.member.Member.{Member}
use Rattle.redl_spans.proofs.MemberLaws.{property-in_front}
use Rattle.redl_spans.proofs.members.property_members.Goals as goal

pub loop-node-preserved : goal.loop-node-preserved
loop-node-preserved c =
    let items = c.args.kids.now in
    let i = c.loop-node.node-index in
    let x = c.node-item.result in
    let more = nodes_of (drop (i + 1) items) in
    let old = c.loop-node.found.items in
    let here = nodes_here items i x (omega arith) c.node-item.is in
    ap (λ (ms : List Member). ms ++ property_members more) c.in_ok-add_properties.ensures
    ∙ append_assoc old (item_property_members (item_of x)) (property_members more)
    ∙ ap (λ (ms : List Member). old ++ ms) (sym (ap property_members here ∙ property-in_front (item_of x) more))
    ∙ c.loop-node.invariant

pub returns : goal.returns
returns c =
    let end = nodes_end c.args.kids.now c.loop-node.node-index (omega arith) in
    let now = c.loop-node.found.items in
    sym (ap (λ (ns : Nodes). now ++ property_members ns) end ∙ append-nil now)
    ∙ c.loop-node.invariant
