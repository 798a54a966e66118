use Rattle.std.proofs.Common.{◌∙◌, ◌+◌, arith, drop, sym}
use Rattle.redl_tree.specs.Model.View.{item_of, nodes_of}
use Rattle.redl_tree.proofs.Model.Laws.{nodes_here}
use Rattle.redl_lists.specs.Parts.{part_element}
use Rattle.redl_lists.proofs.NamedLaws.{named-here, named-later}
use Rattle.redl_lists.proofs.part.first_in_nodes.Goals as goal

pub returns-in-Some : goal.returns-in-Some
returns-in-Some c =
    sym c.loop-node.invariant
    ∙ named-here c.args.name.now (nodes_of (drop c.loop-node.node-index c.args.nodes.now)) (item_of c.node-item.result) (nodes_of (drop (c.loop-node.node-index + 1) c.args.nodes.now)) (part_element c.in-Some.found)
    (nodes_here c.args.nodes.now c.loop-node.node-index c.node-item.result (omega arith) c.node-item.is) c.in-Some.ensures

pub loop-node-preserved : goal.loop-node-preserved
loop-node-preserved c =
    named-later c.args.name.now (nodes_of (drop c.loop-node.node-index c.args.nodes.now)) (item_of c.node-item.result) (nodes_of (drop (c.loop-node.node-index + 1) c.args.nodes.now))
    (nodes_here c.args.nodes.now c.loop-node.node-index c.node-item.result (omega arith) c.node-item.is) c.in_default.ensures
    ∙ c.loop-node.invariant
