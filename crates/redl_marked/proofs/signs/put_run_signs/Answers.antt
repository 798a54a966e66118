use Rattle.std.proofs.Common.{◌+◌, arith, ap, ◌∙◌, drop}
use Rattle.redl_io.proofs.Puts.{so_far_begins, so_far_goes_on, so_far_stops, so_far_ends}
use Rattle.redl_tree.specs.Model.View.{nodes_of, item_of}
use Rattle.redl_tree.proofs.Model.Laws.{nodes_here, nodes_end}
use Rattle.redl_marked.specs.Signs.{run_signs}
use Rattle.redl_marked.specs.Inside.Walks.{item_run}
use Rattle.redl_marked.proofs.WalkLaws.{run_signs-in_front}
use Rattle.redl_marked.proofs.signs.put_run_signs.Goals as goal

pub loop-node-init : goal.loop-node-init
loop-node-init g c = so_far_begins _ _

pub returns-in_err-put_in_run : goal.returns-in_err-put_in_run
returns-in_err-put_in_run g c =
    let here = nodes_here c.args.nodes.now c.loop-node.node-index c.node-item.result (omega arith) c.node-item.is in
    let rest = nodes_of (drop (c.loop-node.node-index + 1) c.args.nodes.now) in
    so_far_stops (item_run (item_of c.node-item.result)) (run_signs rest) (ap run_signs here ∙ run_signs-in_front (item_of c.node-item.result) rest)
    c.from_residual.ensures.1 c.loop-node.invariant c.in_err-put_in_run.ensures

pub loop-node-preserved : goal.loop-node-preserved
loop-node-preserved g c =
    let here = nodes_here c.args.nodes.now c.loop-node.node-index c.node-item.result (omega arith) c.node-item.is in
    let rest = nodes_of (drop (c.loop-node.node-index + 1) c.args.nodes.now) in
    so_far_goes_on (item_run (item_of c.node-item.result)) (run_signs rest) (ap run_signs here ∙ run_signs-in_front (item_of c.node-item.result) rest)
    c.loop-node.invariant c.in_ok-put_in_run.ensures

pub returns : goal.returns
returns g c =
    so_far_ends (ap run_signs (nodes_end c.args.nodes.now c.loop-node.node-index (omega arith))) c.loop-node.invariant
