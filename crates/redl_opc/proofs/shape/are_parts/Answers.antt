use Rattle.std.proofs.Common.{◌+◌, ◌∙◌, ◌&&◌, drop, arith, sym, ap}
use Rattle.std.specs.List.{list_all}
use Rattle.redl_tree.specs.Model.View.{nodes_of}
use Rattle.redl_opc.specs.Elements.{elements_of}
use Rattle.redl_opc.specs.Shape.{is_part}
use Rattle.redl_opc.proofs.UnnamedLaws.{elements-elem, elements-bytes, parts-text}
use Rattle.redl_opc.proofs.shape.are_parts.Goals.{in-Elem+else-not-is_part, in-Bytes}
use Rattle.redl_opc.proofs.shape.are_parts.Goals as goal

pub returns-in-Plain : goal.returns-in-Plain
returns-in-Plain c =
    sym (parts-text c.args.nodes.now c.loop-node.node-index c.node-item.result c.in-Plain.field-0 (omega arith) c.node-item.is c.in-Plain.is) ∙ c.loop-node.invariant

pub loop-node-preserved : goal.loop-node-preserved
loop-node-preserved c =
    let items = c.args.nodes.now in
    let i = c.loop-node.node-index in
    let x = c.node-item.result in
    let more = elements_of (nodes_of (drop (i + 1) items)) in
    elim c.match-node.branch [
      | in-Elem+else-not-is_part w ↦
          sym (ap (list_all is_part) (elements-elem items i x w.in-Elem.part (omega arith) c.node-item.is w.in-Elem.is) ∙ ap (λ b. b && list_all is_part more) (sym w.if-not-is_part.ensures))
          ∙ c.loop-node.invariant
      | in-Bytes w ↦
          sym (ap (list_all is_part) (elements-bytes items i x w.in-Bytes.field-0 (omega arith) c.node-item.is w.in-Bytes.is)) ∙ c.loop-node.invariant
    ]
