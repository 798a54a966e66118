-- Node by node.
use Rattle.std.proofs.Common.{◌+◌, ap, sym, ◌∙◌, arith, drop, find, Some, if◌then◌else◌}
use Rattle.redl_tree.specs.Model.View.{nodes_of, item_of}
use Rattle.redl_tree.proofs.Model.Laws.{nodes_here, item_of-Plain}
use Rattle.redl_tree.specs.Model.Nodes.{in_front}
use Rattle.redl_opc.specs.Elements.{element_of}
use Rattle.redl_opc.proofs.UnnamedLaws.{elements-elem, elements-bytes}
use Rattle.redl_relations.specs.Relations.{first_with}
use Rattle.redl_relations.specs.Inside.Sought.{is_sought}
use Rattle.redl_relations.proofs.Laws.{past_text}
use Rattle.redl_relations.proofs.sought.first.Goals.{in-Elem+else-is_sought, in-Bytes, in-Plain}
use Rattle.redl_relations.proofs.sought.first.Goals as goal

pub loop-node-preserved : goal.loop-node-preserved
loop-node-preserved c =
    let items = c.args.nodes.now in
    let i = c.loop-node.node-index in
    let x = c.node-item.result in
    let p = is_sought c.args.sought in
    let more = nodes_of (drop (i + 1) items) in
    elim c.match-node.branch [
      | in-Elem+else-is_sought w ↦
          sym (ap (find (λ e. p e.tag)) (elements-elem items i x w.in-Elem.elem (omega arith) c.node-item.is w.in-Elem.is)
          ∙ ap (λ b. if b then Some (element_of w.in-Elem.elem) else first_with p more) (sym w.if-is_sought.ensures))
          ∙ c.loop-node.invariant
      | in-Plain w ↦
          sym (ap (first_with p) (nodes_here items i x (omega arith) c.node-item.is ∙ ap (λ y. in_front y more) (ap item_of w.in-Plain.is ∙ item_of-Plain w.in-Plain.field-0))
          ∙ past_text c.args.sought w.in-Plain.field-0 more)
          ∙ c.loop-node.invariant
      | in-Bytes w ↦
          sym (ap (find (λ e. p e.tag)) (elements-bytes items i x w.in-Bytes.field-0 (omega arith) c.node-item.is w.in-Bytes.is)) ∙ c.loop-node.invariant
    ]
