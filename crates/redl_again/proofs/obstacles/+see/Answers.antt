use Rattle.std.proofs.Common.{◌≡◌, ◌∙◌, ◌+◌, ◌||◌, ◌&&◌, drop, length, length-append, ap, sym, subst, arith, refl}
use Rattle.std.proofs.Math.Bool.{and-true, or_assoc, or-false}
use Rattle.std.specs.Prelude.{not}
use Rattle.redl_tree.specs.Model.IdleTexts.{idle_nodes}
use Rattle.redl_tree.specs.Model.Nodes.{Item, idle_item, in_front, no_nodes}
use Rattle.redl_tree.specs.Model.Text.{item_text, text}
use Rattle.redl_tree.specs.Model.View.{item_of, nodes_of}
use Rattle.redl_tree.proofs.Model.Laws.{nodes_here, nodes_end, item_of-Plain, text-in_front, ⊕-no_nodes}
use Rattle.redl_again.proofs.DepthLaws.{passes-in_front}
use Rattle.redl_again.proofs.MeetingLaws.{kept-well}
use Rattle.redl_again.specs.Inside.Depth.{passes}
use Rattle.redl_again.specs.Inside.Meeting.{brackets, brackets_of, closes, join_well}
use Rattle.redl_again.proofs.obstacles.+see.Goals as goal

pub see_nodes-loop-node-init : goal.see_nodes-loop-node-init
see_nodes-loop-node-init t c = record {
  deeper = refl;
  bytes = refl;
  well = ap (λ n. c.args.seen.now.well && join_well n (nodes_of c.args.nodes.now)) c.none-before.ensures;
}

pub see_nodes-loop-node-preserved : goal.see_nodes-loop-node-preserved
see_nodes-loop-node-preserved t c =
    let items = c.args.nodes.now in
    let i = c.loop-node.node-index in
    let x = c.node-item.result in
    let rest = nodes_of (drop (i + 1) items) in
    let here = nodes_here items i x (omega arith) c.node-item.is in
    let levels = c.args.levels in
    record {
      deeper = ap (λ b. b || passes levels rest) c.see_node-before.ensures.deeper
          ∙ or_assoc c.loop-node.seen.deeper (passes levels (in_front (item_of x) no_nodes)) (passes levels rest)
          ∙ ap (λ b. c.loop-node.seen.deeper || b) (sym (passes-in_front levels (item_of x) rest) ∙ ap (passes levels) (sym here))
          ∙ c.loop-node.invariant.deeper;
      bytes = omega (arith, c.see_node-before.ensures.bytes, ap (λ ns. length (text ns)) here, ap length (text-in_front (item_of x) rest), length-append (item_text (item_of x)) (text rest), c.loop-node.invariant.bytes);
      well = c.see_node-before.ensures.well rest
          ∙ ap (λ ns. c.loop-node.seen.well && join_well (brackets c.loop-node.before.0 c.loop-node.before.1.0.now) ns) (sym here)
          ∙ c.loop-node.invariant.well;
    }

pub see_nodes-returns-clause-deeper : goal.see_nodes-returns-clause-deeper
see_nodes-returns-clause-deeper t c =
    let end = nodes_end c.args.nodes.now c.loop-node.node-index (omega arith) in
    sym (or-false c.loop-node.seen.deeper) ∙ ap (λ ns. c.loop-node.seen.deeper || passes c.args.levels ns) (sym end) ∙ c.loop-node.invariant.deeper

pub see_nodes-returns-clause-bytes : goal.see_nodes-returns-clause-bytes
see_nodes-returns-clause-bytes t c =
    let end = nodes_end c.args.nodes.now c.loop-node.node-index (omega arith) in
    omega (arith, ap (λ ns. length (text ns)) end, c.loop-node.invariant.bytes)

pub see_nodes-returns-clause-well : goal.see_nodes-returns-clause-well
see_nodes-returns-clause-well t c =
    let end = nodes_end c.args.nodes.now c.loop-node.node-index (omega arith) in
    sym (and-true c.loop-node.seen.well)
    ∙ ap (λ ns. c.loop-node.seen.well && join_well (brackets c.loop-node.before.0 c.loop-node.before.1.0.now) ns) (sym end)
    ∙ c.loop-node.invariant.well

pub see_node-returns-in-Plain-clause-deeper : goal.see_node-returns-in-Plain-clause-deeper
see_node-returns-in-Plain-clause-deeper t c =
    let plain = c.in-Plain.plain in
    let old = c.args.seen.now.deeper in
    let Deeper : Item → Type 0 = λ item. c.add_text-in-Plain.new.self.deeper ≡ (old || passes c.args.levels (in_front item no_nodes)) in
    subst Deeper (sym (ap item_of c.in-Plain.is ∙ item_of-Plain plain))
    (c.add_text-in-Plain.ensures.deeper ∙ c.add_depth.ensures.deeper ∙ ap (λ b. old || b) c.goes_deeper.ensures
    ∙ ap (λ ns. old || passes c.args.levels ns) (sym (⊕-no_nodes (idle_nodes plain))))

pub see_node-returns-in-Plain-clause-well : goal.see_node-returns-in-Plain-clause-well
see_node-returns-in-Plain-clause-well t c rest =
    let plain = c.in-Plain.plain in
    let kept = c.text.result.now in
    let before = brackets_of c.args.before in
    let after = brackets c.add_text-in-Plain.result.brackets c.add_text-in-Plain.result.text.now in
    let new = c.add_text-in-Plain.new.self.well in
    let old = c.args.seen.now.well in
    let Well : Item → Type 0 = λ item. (new && join_well after rest) ≡ (old && join_well before (in_front item rest)) in
    let own = kept-well new old before after kept rest c.text.ensures.idle (ap (λ t. text (idle_nodes t)) c.text.ensures.text ∙ c.text.ensures.nodes)
    (c.add_text-in-Plain.ensures.well ∙ ap (λ b. b && not (closes before kept)) c.add_depth.ensures.well) c.add_text-in-Plain.ensures.before in
    subst Well (sym (ap item_of c.in-Plain.is ∙ item_of-Plain plain)) (subst (λ t. (new && join_well after rest) ≡ (old && join_well before (in_front (idle_item t) rest))) c.text.ensures.text own)
