-- Node by node.
use Rattle.std.proofs.Common.{◌<◌, ◌+◌, ◌∙◌, List, drop, slice_get, ap, sym, arith, true≢false}
use Rattle.redl_tree.specs.Model.View.{Element, nodes_of}
use Rattle.redl_opc.specs.Elements.{element_of, elements_of}
use Rattle.redl_opc.proofs.UnnamedLaws.{elements-elem, elements-bytes, parts-more, parts-text}
use Rattle.redl_relations.proofs.Laws.{get-later}
use Rattle.redl_relations.proofs.parts.element_at.Goals.{in-Elem+else-left-eq0, in-Bytes}
use Rattle.redl_relations.proofs.parts.element_at.Goals as goal

pub returns-in-Plain : goal.returns-in-Plain
returns-in-Plain c =
    absurd (true≢false (sym c.loop-node.invariant.1 ∙ parts-text c.args.nodes.now c.loop-node.node-index c.node-item.result c.in-Plain.field-0 (omega arith) c.node-item.is c.in-Plain.is))

pub loop-node-preserved : goal.loop-node-preserved
loop-node-preserved c =
    let items = c.args.nodes.now in
    let i = c.loop-node.node-index in
    let x = c.node-item.result in
    let left = c.loop-node.left in
    let more = elements_of (nodes_of (drop (i + 1) items)) in
    let all = parts-more items i x (omega arith) c.node-item.is c.loop-node.invariant.1 in
    elim c.match-node.branch [
      | in-Elem+else-left-eq0 w ↦
          let some : 0 < left = omega (arith, w.if-left-eq0.false) in (
            ap (slice_get more) w.left-is
                ∙ sym (ap (λ (es : List Element). slice_get es left) (elements-elem items i x w.in-Elem.elem (omega arith) c.node-item.is w.in-Elem.is) ∙ get-later (element_of w.in-Elem.elem) more left some)
                ∙ c.loop-node.invariant.0,
            all,
          )
      | in-Bytes w ↦ (
        ap (slice_get more) w.left-is
            ∙ sym (ap (λ (es : List Element). slice_get es left) (elements-bytes items i x w.in-Bytes.field-0 (omega arith) c.node-item.is w.in-Bytes.is))
            ∙ c.loop-node.invariant.0,
        all,
      )
    ]
