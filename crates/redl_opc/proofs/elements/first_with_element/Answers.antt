use Rattle.std.proofs.Common.{◌+◌, drop, sym, ap, ◌∙◌}
use Rattle.redl_tree.specs.Model.Kids.{has_element}
use Rattle.redl_tree.specs.Model.Nodes.{in_front, no_nodes}
use Rattle.redl_tree.specs.Model.View.{item_of, nodes_of}
use Rattle.redl_tree.proofs.Model.Laws.{item_of-Plain, item_of-Bytes, nodes_here}
use Rattle.redl_tree.proofs.Idle.Items.{element_first}
use Rattle.redl_opc.specs.Elements.{elements_of}
use Rattle.redl_opc.proofs.elements.first_with_element.Goals as goal

pub returns-in-Plain-clause-some : goal.returns-in-Plain-clause-some
returns-in-Plain-clause-some c =
    let t = c.in-Plain.field-0 in
    ap (λ x. has_element (in_front x no_nodes)) (ap item_of c.in-Plain.is ∙ item_of-Plain t) ∙ element_first t no_nodes

pub loop-place-preserved : goal.loop-place-preserved
loop-place-preserved c =
    let items = c.args.nodes.now in
    let i = c.loop-place.place in
    let b = c.in-Bytes.field-0 in
    sym (ap elements_of (nodes_here items i c.index-nodes-place.result c.loop-place-test.true c.index-nodes-place.is
    ∙ ap (λ x. in_front x (nodes_of (drop (i + 1) items))) (ap item_of c.in-Bytes.is ∙ item_of-Bytes b)))
    ∙ c.loop-place.invariant
