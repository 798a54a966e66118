use Rattle.std.proofs.Common.{◌∙◌, ◌+◌, arith, drop, ap, sym}
use Rattle.redl_tree.specs.Model.View.{item_of, nodes_of}
use Rattle.redl_tree.proofs.Model.Laws.{nodes_here, nodes_end}
use Rattle.redl_bare.specs.Marks.{run_change}
use Rattle.redl_bare.specs.Inside.Views.{stamp_view}
use Rattle.redl_bare.proofs.WalkLaws.{run_change-here, run_change-later}
use Rattle.redl_bare.proofs.marks.run_change.Goals as goal

pub returns-in-Some : goal.returns-in-Some
returns-in-Some c =
    run_change-here (nodes_of (drop c.loop-node.node-index c.args.kids.now)) (item_of c.node-item.result) (nodes_of (drop (c.loop-node.node-index + 1) c.args.kids.now)) (stamp_view c.in-Some.stamp)
    (nodes_here c.args.kids.now c.loop-node.node-index c.node-item.result (omega arith) c.node-item.is) c.in-Some.ensures
    ∙ c.loop-node.invariant

pub loop-node-preserved : goal.loop-node-preserved
loop-node-preserved c =
    run_change-later (nodes_of (drop c.loop-node.node-index c.args.kids.now)) (item_of c.node-item.result) (nodes_of (drop (c.loop-node.node-index + 1) c.args.kids.now))
    (nodes_here c.args.kids.now c.loop-node.node-index c.node-item.result (omega arith) c.node-item.is) c.in_default.ensures
    ∙ c.loop-node.invariant

pub returns : goal.returns
returns c = ap run_change (sym (nodes_end c.args.kids.now c.loop-node.node-index (omega arith))) ∙ c.loop-node.invariant
