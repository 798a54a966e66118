use Rattle.std.proofs.Common.{◌∙◌, ◌+◌, drop, sym, ap, arith}
use Rattle.redl_tree.specs.Model.View.{nodes_of, item_of}
use Rattle.redl_tree.specs.Rules.CellEnds.{end_of, end_of_two}
use Rattle.redl_tree.proofs.Model.Laws.{nodes_here}
use Rattle.redl_rules.specs.Inside.Ends.{item_end}
use Rattle.redl_rules.proofs.EndLaws.{end_of_two-assoc, end_of-in_front}
use Rattle.redl_rules.proofs.ends.+ends.Goals as goal

pub end_of_nodes-loop-node-preserved : goal.end_of_nodes-loop-node-preserved
end_of_nodes-loop-node-preserved t c =
    let items = c.args.nodes.now in
    let i = c.loop-node.node-index in
    let x = c.node-item.result in
    let more = nodes_of (drop (i + 1) items) in
    let here = nodes_here items i x (omega arith) c.node-item.is in
    let reach = c.args.reach in
    let end = c.loop-node.end in
    ap (λ e. end_of_two reach e (end_of reach more)) (c.end_of_two-end.ensures ∙ ap (end_of_two reach end) c.end_of_node.ensures)
    ∙ end_of_two-assoc reach end (item_end reach (item_of x)) (end_of reach more)
    ∙ ap (end_of_two reach end) (sym (ap (end_of reach) here ∙ end_of-in_front reach (item_of x) more))
    ∙ c.loop-node.invariant
