use Rattle.std.proofs.Common.{◌+◌, ◌∙◌, ◌||◌, drop, arith, sym, ap}
use Rattle.std.specs.List.{list_any}
use Rattle.redl_tree.specs.Model.View.{nodes_of}
use Rattle.redl_opc.specs.Elements.{elements_of}
use Rattle.redl_opc.specs.Shape.{is_document}
use Rattle.redl_opc.proofs.UnnamedLaws.{elements-elem, elements-bytes, document-text}
use Rattle.redl_opc.proofs.shape.have_document.Goals.{in-Elem+else-is_document, in-Bytes, in-Plain}
use Rattle.redl_opc.proofs.shape.have_document.Goals as goal

pub loop-node-preserved : goal.loop-node-preserved
loop-node-preserved c =
    let items = c.args.nodes.now in
    let i = c.loop-node.node-index in
    let x = c.node-item.result in
    let more = elements_of (nodes_of (drop (i + 1) items)) in
    elim c.match-node.branch [
      | in-Elem+else-is_document w ↦
          sym (ap (list_any is_document) (elements-elem items i x w.in-Elem.part (omega arith) c.node-item.is w.in-Elem.is) ∙ ap (λ b. b || list_any is_document more) (sym w.if-is_document.ensures))
          ∙ c.loop-node.invariant
      | in-Bytes w ↦
          sym (ap (list_any is_document) (elements-bytes items i x w.in-Bytes.field-0 (omega arith) c.node-item.is w.in-Bytes.is)) ∙ c.loop-node.invariant
      | in-Plain w ↦
          sym (document-text items i x w.in-Plain.field-0 (omega arith) c.node-item.is w.in-Plain.is) ∙ c.loop-node.invariant
    ]
