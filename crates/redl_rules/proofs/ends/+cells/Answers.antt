use Rattle.std.proofs.Common.{◌≡◌, ◌∙◌, ◌+◌, false, ◌||◌, drop, sym, ap, arith}
use Rattle.redl_tree.specs.Decisions.Tables.{has_own}
use Rattle.redl_tree.specs.Model.View.{nodes_of, item_of}
use Rattle.redl_tree.proofs.Model.Laws.{nodes_here}
use Rattle.redl_rules.specs.Inside.Ends.{item_has_own}
use Rattle.redl_rules.proofs.EndLaws.{has_own-in_front}
use Rattle.redl_rules.proofs.ends.+cells.Goals as goal

pub has_own_cell-loop-node-preserved : goal.has_own_cell-loop-node-preserved
has_own_cell-loop-node-preserved t c =
    let items = c.args.nodes.now in
    let i = c.loop-node.node-index in
    let x = c.node-item.result in
    let more = nodes_of (drop (i + 1) items) in
    let here = nodes_here items i x (omega arith) c.node-item.is in
    let reach = c.args.reach in
    let e : item_has_own "tc" reach (item_of x) ≡ false = sym c.holds_cell.ensures ∙ c.if-holds_cell.false in
    sym (ap (has_own "tc" reach) here ∙ has_own-in_front reach (item_of x) more ∙ ap (λ b. b || has_own "tc" reach more) e) ∙ c.loop-node.invariant
