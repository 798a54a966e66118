-- Node by node.
use Rattle.std.proofs.Common.{◌+◌, ◌++◌, ap, sym, ◌∙◌, arith, drop, List, append_assoc, append-nil}
use Rattle.std.proofs.lemmas.Result.{on_ok_weaker}
use Rattle.redl_tree.specs.Model.Nodes.{Nodes}
use Rattle.redl_tree.specs.Model.View.{nodes_of, item_of, tag_of, kids_of}
use Rattle.redl_tree.proofs.Model.Laws.{nodes_here, nodes_end}
use Rattle.redl_places.specs.Places.{member_places, own_place, place_in}
use Rattle.redl_places.specs.Items.{item_places}
use Rattle.redl_places.specs.Views.{signs_of}
use Rattle.redl_places.specs.declared.place.StoryPlace.{StoryPlace}
use Rattle.redl_places.specs.declared.place.MemberPlace.{MemberPlace}
use Rattle.redl_places.proofs.WalkLaws.{places-in_front}
use Rattle.redl_places.proofs.walk.+walk.Goals as goal

pub add_elem-returns : goal.add_elem-returns
add_elem-returns t c =
    let tag = tag_of c.args.elem.now in
    let kids = kids_of c.args.elem.now in
    let signs = signs_of c.args.signs.now in
    let old = c.args.members.now.items in
    let own = own_place c.args.here tag in
    on_ok_weaker c.add_nodes.result (λ e. e
    ∙ ap (λ (ps : List MemberPlace). ps ++ member_places signs c.place_in.result (nodes_of c.kids.result.now)) c.in_ok-add_own.ensures
    ∙ ap (λ (p : StoryPlace). (old ++ own) ++ member_places signs p (nodes_of c.kids.result.now)) c.place_in.ensures
    ∙ ap (λ (nodes : Nodes). (old ++ own) ++ member_places signs (place_in signs c.args.here tag) nodes) c.kids.ensures.kids
    ∙ append_assoc old own (member_places signs (place_in signs c.args.here tag) kids)) c.add_nodes.ensures

pub add_nodes-loop-node-preserved : goal.add_nodes-loop-node-preserved
add_nodes-loop-node-preserved t c =
    let items = c.args.nodes.now in
    let i = c.loop-node.node-index in
    let x = c.node-item.result in
    let signs = signs_of c.args.signs.now in
    let here = c.args.here in
    let more = nodes_of (drop (i + 1) items) in
    let old = c.loop-node.members.items in
    let first = nodes_here items i x (omega arith) c.node-item.is in
    ap (λ (ps : List MemberPlace). ps ++ member_places signs here more) c.in_ok-add_node.ensures
    ∙ append_assoc old (item_places signs here (item_of x)) (member_places signs here more)
    ∙ ap (λ (ps : List MemberPlace). old ++ ps) (sym (ap (member_places signs here) first ∙ places-in_front signs here (item_of x) more))
    ∙ c.loop-node.invariant

pub add_nodes-returns : goal.add_nodes-returns
add_nodes-returns t c =
    let end = nodes_end c.args.nodes.now c.loop-node.node-index (omega arith) in
    let now = c.loop-node.members.items in
    sym (ap (λ (ns : Nodes). now ++ member_places (signs_of c.args.signs.now) c.args.here ns) end ∙ append-nil now)
    ∙ c.loop-node.invariant
