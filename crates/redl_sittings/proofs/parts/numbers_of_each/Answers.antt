use Rattle.std.proofs.Common.{◌+◌, [], ◌∷◌, ◌++◌, ◌∙◌, drop, map, arith, sym, ap}
use Rattle.std.proofs.lemmas.List.{map_push}
use Rattle.redl_tree.specs.Model.IdleTexts.{idle_nodes}
use Rattle.redl_tree.specs.Model.View.{nodes_of}
use Rattle.redl_opc.specs.Elements.{element_of, elements_of}
use Rattle.redl_sittings.proofs.IdleNumbers.{items_of_vec, below, below-elem, below-bytes, below-text, moved}
use Rattle.redl_sittings.proofs.parts.numbers_of_each.Goals.{in-Elem+in_ok-numbers_of-in-Elem+in_ok-push-in-Elem, in-Plain+in_ok-add_empty-in-Plain, in-Bytes}
use Rattle.redl_sittings.proofs.parts.numbers_of_each.Goals as goal

pub loop-node-preserved : goal.loop-node-preserved
loop-node-preserved c =
    let items = c.args.nodes.now in
    let i = c.loop-node.node-index in
    let x = c.node-item.result in
    let done = map items_of_vec c.loop-node.numbers.items in
    let more = map below (elements_of (nodes_of (drop (i + 1) items))) in
    elim c.match-node.branch [
      | in-Elem+in_ok-numbers_of-in-Elem+in_ok-push-in-Elem w ↦
          let e = w.in-Elem.part in
          moved done (map items_of_vec c.match-node.numbers.items) (below (element_of e) ∷ []) more _
          (ap (λ v. map items_of_vec v.items) w.numbers-is ∙ ap (map items_of_vec) w.in_ok-push-in-Elem.ensures.items ∙ map_push items_of_vec c.loop-node.numbers.items _ ∙ ap (λ n. done ++ n ∷ []) w.in_ok-numbers_of-in-Elem.ensures)
          (ap (λ ns. done ++ ns) (sym (below-elem items i x e (omega arith) c.node-item.is w.in-Elem.is)) ∙ c.loop-node.invariant)
      | in-Plain+in_ok-add_empty-in-Plain w ↦
          let t = w.in-Plain.plain in
          moved done (map items_of_vec c.match-node.numbers.items) (map (λ part. []) (elements_of (idle_nodes t))) more _
          (ap (λ v. map items_of_vec v.items) w.numbers-is ∙ w.in_ok-add_empty-in-Plain.ensures)
          (ap (λ ns. done ++ ns) (sym (below-text items i x t (omega arith) c.node-item.is w.in-Plain.is)) ∙ c.loop-node.invariant)
      | in-Bytes w ↦
          ap (λ v. map items_of_vec v.items ++ more) w.numbers-is
          ∙ ap (λ ns. done ++ ns) (sym (below-bytes items i x w.in-Bytes.field-0 (omega arith) c.node-item.is w.in-Bytes.is)) ∙ c.loop-node.invariant
    ]
