use Rattle.std.proofs.Common.{◌∙◌, ◌+◌, true, false, drop, sym, ap, arith}
use Rattle.redl_tree.specs.Model.View.{nodes_of, item_of}
use Rattle.redl_tree.specs.Roles.Names.{named}
use Rattle.redl_tree.specs.Roles.Words.{name_of}
use Rattle.redl_tree.proofs.Model.Laws.{nodes_here}
use Rattle.redl_tree.proofs.Idle.Lists.{word_none}
use Rattle.redl_rules.proofs.KidLaws.{ends, ends-other, ends-stop, ends-next}
use Rattle.redl_rules.proofs.kids.is_only_last.Goals as goal
use Rattle.redl_rules.proofs.kids.is_only_last.Goals.{then-is_element+else-ended, else-is_element}

pub returns-then-ended : goal.returns-then-ended
returns-then-ended c =
    let items = c.args.nodes.now in
    let i = c.loop-node.node-index in
    let x = c.node-item.result in
    let more = nodes_of (drop (i + 1) items) in
    let here = nodes_here items i x (omega arith) c.node-item.is in
    let test = named (name_of c.args.word) in
    sym (ap (λ b. ends b test (nodes_of (drop i items))) c.if-ended.true ∙ ap (ends true test) here ∙ ends-stop test (item_of x) more (sym c.is_element.ensures ∙ c.if-is_element.true))
    ∙ c.loop-node.invariant

pub loop-node-preserved : goal.loop-node-preserved
loop-node-preserved c =
    let items = c.args.nodes.now in
    let i = c.loop-node.node-index in
    let x = c.node-item.result in
    let more = nodes_of (drop (i + 1) items) in
    let here = nodes_here items i x (omega arith) c.node-item.is in
    let test = named (name_of c.args.word) in
    let ended = c.loop-node.ended in
    elim c.if-is_element.branch [
      | then-is_element+else-ended w ↦
          ap (λ b. ends b test more) (w.ended-is ∙ w.node_is-ended.ensures)
          ∙ sym (ap (λ b. ends b test (nodes_of (drop i items))) w.if-ended.false ∙ ap (ends false test) here ∙ ends-next test (word_none c.args.word false c.requires.asked) (item_of x) more)
          ∙ c.loop-node.invariant
      | else-is_element w ↦
          ap (λ b. ends b test more) w.ended-is
          ∙ sym (ap (ends ended test) here ∙ ends-other ended test (item_of x) more (sym c.is_element.ensures ∙ w.if-is_element.false))
          ∙ c.loop-node.invariant
    ]
