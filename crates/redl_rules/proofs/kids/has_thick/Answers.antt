use Rattle.std.proofs.Common.{◌≡◌, ◌∙◌, ◌+◌, true, false, ◌||◌, drop, sym, ap, arith}
use Rattle.redl_tree.specs.Model.Kids.{some_element, item_is}
use Rattle.redl_tree.specs.Model.View.{nodes_of, item_of}
use Rattle.redl_tree.specs.Roles.Lists.{is_thick}
use Rattle.redl_tree.proofs.Model.Laws.{nodes_here}
use Rattle.redl_tree.proofs.Model.KeptLaws.{some-in_front}
use Rattle.redl_rules.proofs.kids.has_thick.Goals as goal

pub returns-then-node_is_thick : goal.returns-then-node_is_thick
returns-then-node_is_thick c =
    let items = c.args.nodes.now in
    let i = c.loop-node.node-index in
    let x = c.node-item.result in
    let more = nodes_of (drop (i + 1) items) in
    let here = nodes_here items i x (omega arith) c.node-item.is in
    let test = is_thick in
    let e : item_is test (item_of x) ≡ true = sym c.node_is_thick.ensures ∙ c.if-node_is_thick.true in
    sym (ap (some_element test) here ∙ some-in_front test (item_of x) more ∙ ap (λ b. b || some_element test more) e) ∙ c.loop-node.invariant

pub loop-node-preserved : goal.loop-node-preserved
loop-node-preserved c =
    let items = c.args.nodes.now in
    let i = c.loop-node.node-index in
    let x = c.node-item.result in
    let more = nodes_of (drop (i + 1) items) in
    let here = nodes_here items i x (omega arith) c.node-item.is in
    let test = is_thick in
    let e : item_is test (item_of x) ≡ false = sym c.node_is_thick.ensures ∙ c.if-node_is_thick.false in
    sym (ap (some_element test) here ∙ some-in_front test (item_of x) more ∙ ap (λ b. b || some_element test more) e) ∙ c.loop-node.invariant
