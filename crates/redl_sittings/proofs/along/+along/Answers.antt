use Rattle.std.proofs.Common.{◌+◌, ◌∷◌, ◌++◌, ◌∙◌, drop, arith, sym, ap, replicate}
use Rattle.redl_tree.specs.Model.Elements.{elements}
use Rattle.redl_tree.specs.Model.IdleTexts.{idle_nodes}
use Rattle.redl_tree.specs.Model.View.{nodes_of, tag_of, kids_of}
use Rattle.redl_sittings.specs.SecondNumbers.{numbers_along}
use Rattle.redl_sittings.proofs.IdleNumbers.{along-elem, along-bytes, along-text, moved}
use Rattle.redl_sittings.proofs.along.+along.Goals.{add_numbers-in-Elem+in_ok-add_element-in-Elem, add_numbers-in-Plain+in_ok-add_none-in-Plain, add_numbers-in-Bytes}
use Rattle.redl_sittings.proofs.along.+along.Goals as goal

pub add_numbers-loop-node-preserved : goal.add_numbers-loop-node-preserved
add_numbers-loop-node-preserved t c =
    let items = c.args.nodes.now in
    let i = c.loop-node.node-index in
    let x = c.node-item.result in
    let done = c.loop-node.numbers.items in
    let more = numbers_along (nodes_of (drop (i + 1) items)) in
    elim c.match-node.branch [
      | add_numbers-in-Elem+in_ok-add_element-in-Elem w ↦
          let e = w.in-Elem.elem in
          moved done c.match-node.numbers.items ((tag_of e).rev ∷ numbers_along (kids_of e)) more _
          (ap (λ v. v.items) w.numbers-is ∙ w.in_ok-add_element-in-Elem.ensures)
          (ap (λ ns. done ++ ns) (sym (along-elem items i x e (omega arith) c.node-item.is w.in-Elem.is)) ∙ c.loop-node.invariant)
      | add_numbers-in-Plain+in_ok-add_none-in-Plain w ↦
          let t = w.in-Plain.plain in
          moved done c.match-node.numbers.items (replicate (elements (idle_nodes t)) 0) more _
          (ap (λ v. v.items) w.numbers-is ∙ w.in_ok-add_none-in-Plain.ensures ∙ ap (λ n. done ++ replicate n 0) w.elems.ensures)
          (ap (λ ns. done ++ ns) (sym (along-text items i x t (omega arith) c.node-item.is w.in-Plain.is)) ∙ c.loop-node.invariant)
      | add_numbers-in-Bytes w ↦
          ap (λ v. v.items ++ more) w.numbers-is
          ∙ ap (λ ns. done ++ ns) (sym (along-bytes items i x w.in-Bytes.field-0 (omega arith) c.node-item.is w.in-Bytes.is)) ∙ c.loop-node.invariant
    ]
