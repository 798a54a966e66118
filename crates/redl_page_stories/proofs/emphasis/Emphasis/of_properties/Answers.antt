use Rattle.std.proofs.Common.{◌≡◌, ◌∙◌, ◌+◌, ◌||◌, ap, arith, codes, drop}
use Rattle.redl_tree.specs.Model.Nodes.{in_front}
use Rattle.redl_tree.specs.Model.View.{item_of, nodes_of}
use Rattle.redl_tree.proofs.Model.Laws.{nodes_here}
use Rattle.redl_page_stories.specs.Shapes.{switched_on}
use Rattle.redl_page_stories.specs.Inside.Items.{item_switches}
use Rattle.redl_page_stories.proofs.EmphasisLaws.{found_more}
use Rattle.redl_page_stories.proofs.NodeLaws.{switched_on-next}
use Rattle.redl_page_stories.proofs.emphasis.Emphasis.of_properties.Goals as goal

pub loop-node-preserved : goal.loop-node-preserved
loop-node-preserved c =
    let left = nodes_of (drop c.loop-node.node-index c.args.nodes.now) in
    let x = item_of c.node-item.result in
    let rest = nodes_of (drop (c.loop-node.node-index + 1) c.args.nodes.now) in
    let here : left ≡ in_front x rest = nodes_here c.args.nodes.now c.loop-node.node-index c.node-item.result (omega arith) c.node-item.is in
    record {
      bold = found_more c.loop-node.found.bold (item_switches (codes "b") x) (switched_on (codes "b") rest) c.with-found.result.bold (switched_on (codes "b") (nodes_of c.args.nodes.now)) (switched_on (codes "b") left)
          (c.with-found.ensures.bold ∙ ap (λ b. c.loop-node.found.bold || b) c.among_properties.ensures.bold) (switched_on-next (codes "b") left x rest here) c.loop-node.invariant.bold;
      italic = found_more c.loop-node.found.italic (item_switches (codes "i") x) (switched_on (codes "i") rest) c.with-found.result.italic (switched_on (codes "i") (nodes_of c.args.nodes.now)) (switched_on (codes "i") left)
          (c.with-found.ensures.italic ∙ ap (λ b. c.loop-node.found.italic || b) c.among_properties.ensures.italic) (switched_on-next (codes "i") left x rest here) c.loop-node.invariant.italic;
    }
