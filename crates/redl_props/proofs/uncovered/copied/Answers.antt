use Rattle.std.proofs.Common.{◌∙◌, ap, sym, arith, drop, ◌+◌}
use Rattle.redl_tree.specs.Model.Kids.{without}
use Rattle.redl_tree.specs.Model.Nodes.{no_nodes, in_front, ◌⊕◌}
use Rattle.redl_tree.specs.Decisions.Restored.{is_uncovered as is_uncovered_tag}
use Rattle.redl_tree.specs.Model.View.{nodes_of, item_of}
use Rattle.redl_tree.proofs.Model.Laws.{⊕-no_nodes, in_front-⊕, built_more, nodes_here, nodes_end, nodes_of-push}
use Rattle.redl_tree.proofs.Model.KeptLaws.{without_kept, without_left}
use Rattle.redl_props.proofs.UncoveredLaws.{none_uncovered}
use Rattle.redl_props.proofs.uncovered.copied.Goals.{then-not-is_uncovered_node+in_ok-copy_node+in_ok-push, else-not-is_uncovered_node}
use Rattle.redl_props.proofs.uncovered.copied.Goals as goal

pub loop-node-preserved : goal.loop-node-preserved
loop-node-preserved c =
    let test = is_uncovered_tag c.args.what in
    let here = ap (without test) (nodes_here c.args.former.now c.loop-node.node-index c.node-item.result (omega arith) c.node-item.is) in
    let x = item_of c.node-item.result in
    let rest = without test (nodes_of (drop (c.loop-node.node-index + 1) c.args.former.now)) in
    let built = nodes_of c.loop-node.copied.items in
    elim c.if-not-is_uncovered_node.branch [
      | then-not-is_uncovered_node+in_ok-copy_node+in_ok-push w ↦ built_more built (in_front x no_nodes) _
          (ap (λ v. nodes_of v.items) w.copied-is ∙ ap nodes_of w.in_ok-push.ensures.items ∙ nodes_of-push _ _ ∙ ap (λ y. built ⊕ in_front y no_nodes) w.in_ok-copy_node.ensures)
          (here ∙ without_kept test (none_uncovered c.args.what) x _ (sym w.if-not-is_uncovered_node.ensures) ∙ sym (in_front-⊕ x no_nodes _)) c.loop-node.invariant
      | else-not-is_uncovered_node w ↦
          ap (λ v. nodes_of v.items ⊕ rest) w.copied-is ∙ ap (λ ns. built ⊕ ns) (sym (here ∙ without_left test (none_uncovered c.args.what) x _ (sym w.if-not-is_uncovered_node.ensures))) ∙ c.loop-node.invariant
    ]

pub returns : goal.returns
returns c =
    let end = ap (without (is_uncovered_tag c.args.what)) (nodes_end c.args.former.now c.loop-node.node-index (omega arith)) in
    sym (⊕-no_nodes (nodes_of c.loop-node.copied.items)) ∙ ap (λ ns. nodes_of c.loop-node.copied.items ⊕ ns) (sym end) ∙ c.loop-node.invariant
