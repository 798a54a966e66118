use Rattle.std.proofs.Common.{◌∙◌, ◌+◌, true, false, drop, sym, ap, arith}
use Rattle.redl_tree.specs.Model.Nodes.{Tag}
use Rattle.redl_tree.specs.Model.View.{nodes_of, item_of}
use Rattle.redl_tree.specs.Roles.Arounds.{role_in}
use Rattle.redl_tree.specs.Roles.Kinds.{is_change}
use Rattle.redl_tree.proofs.Model.Laws.{nodes_here}
use Rattle.redl_rules.proofs.KidLaws.{none_changes, ends, ends-other, ends-stop, ends-next}
use Rattle.redl_rules.proofs.kids.changes_end_properties.Goals as goal
use Rattle.redl_rules.proofs.kids.changes_end_properties.Goals.{then-is_element+else-ended, else-is_element}

pub returns-then-ended : goal.returns-then-ended
returns-then-ended c =
    let items = c.args.nodes.now in
    let i = c.loop-node.node-index in
    let x = c.node-item.result in
    let more = nodes_of (drop (i + 1) items) in
    let here = nodes_here items i x (omega arith) c.node-item.is in
    let test = λ (kid : Tag). is_change (role_in c.args.around kid) in
    sym (ap (λ b. ends b test (nodes_of (drop i items))) c.if-ended.true ∙ ap (ends true test) here ∙ ends-stop test (item_of x) more (sym c.is_element.ensures ∙ c.if-is_element.true))
    ∙ c.loop-node.invariant

pub loop-node-preserved : goal.loop-node-preserved
loop-node-preserved c =
    let items = c.args.nodes.now in
    let i = c.loop-node.node-index in
    let x = c.node-item.result in
    let more = nodes_of (drop (i + 1) items) in
    let here = nodes_here items i x (omega arith) c.node-item.is in
    let test = λ (kid : Tag). is_change (role_in c.args.around kid) in
    let ended = c.loop-node.ended in
    elim c.if-is_element.branch [
      | then-is_element+else-ended w ↦
          ap (λ b. ends b test more) (w.ended-is ∙ w.node_is_change-ended.ensures)
          ∙ sym (ap (λ b. ends b test (nodes_of (drop i items))) w.if-ended.false ∙ ap (ends false test) here ∙ ends-next test (none_changes false c.args.around) (item_of x) more)
          ∙ c.loop-node.invariant
      | else-is_element w ↦
          ap (λ b. ends b test more) w.ended-is
          ∙ sym (ap (ends ended test) here ∙ ends-other ended test (item_of x) more (sym c.is_element.ensures ∙ w.if-is_element.false))
          ∙ c.loop-node.invariant
    ]
