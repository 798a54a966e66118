use Rattle.std.proofs.Common.{◌≡◌, ◌∙◌, ◌+◌, ◌||◌, ap, arith, codes, drop}
use Rattle.redl_tree.specs.Model.Nodes.{in_front}
use Rattle.redl_tree.specs.Model.View.{item_of, nodes_of}
use Rattle.redl_tree.proofs.Model.Laws.{nodes_here}
use Rattle.redl_page_stories.specs.Shapes.{has_property}
use Rattle.redl_page_stories.specs.Inside.Items.{item_has_property}
use Rattle.redl_page_stories.proofs.EmphasisLaws.{found_more}
use Rattle.redl_page_stories.proofs.NodeLaws.{has_property-next}
use Rattle.redl_page_stories.proofs.emphasis.Emphasis.of_run.Goals as goal

pub loop-node-preserved : goal.loop-node-preserved
loop-node-preserved c =
    let left = nodes_of (drop c.loop-node.node-index c.args.kids.now) in
    let x = item_of c.node-item.result in
    let rest = nodes_of (drop (c.loop-node.node-index + 1) c.args.kids.now) in
    let here : left ≡ in_front x rest = nodes_here c.args.kids.now c.loop-node.node-index c.node-item.result (omega arith) c.node-item.is in
    record {
      bold = found_more c.loop-node.found.bold (item_has_property (codes "b") x) (has_property (codes "b") rest) c.with-found.result.bold (has_property (codes "b") (nodes_of c.args.kids.now)) (has_property (codes "b") left)
          (c.with-found.ensures.bold ∙ ap (λ b. c.loop-node.found.bold || b) c.in_run.ensures.bold) (has_property-next (codes "b") left x rest here) c.loop-node.invariant.bold;
      italic = found_more c.loop-node.found.italic (item_has_property (codes "i") x) (has_property (codes "i") rest) c.with-found.result.italic (has_property (codes "i") (nodes_of c.args.kids.now)) (has_property (codes "i") left)
          (c.with-found.ensures.italic ∙ ap (λ b. c.loop-node.found.italic || b) c.in_run.ensures.italic) (has_property-next (codes "i") left x rest here) c.loop-node.invariant.italic;
    }
