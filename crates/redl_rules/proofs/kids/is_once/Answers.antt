use Rattle.std.proofs.Common.{◌∙◌, ◌+◌, true, false, drop, sym, ap, arith}
use Rattle.redl_tree.specs.Model.View.{nodes_of, item_of}
use Rattle.redl_tree.specs.Roles.Names.{named}
use Rattle.redl_tree.specs.Roles.Words.{name_of}
use Rattle.redl_tree.proofs.Model.Laws.{nodes_here}
use Rattle.redl_tree.proofs.Idle.Lists.{word_none}
use Rattle.redl_rules.proofs.KidLaws.{few, few-other, few-stop, few-next}
use Rattle.redl_rules.proofs.kids.is_once.Goals as goal
use Rattle.redl_rules.proofs.kids.is_once.Goals.{then-node_is+else-seen, else-node_is}

pub returns-then-seen : goal.returns-then-seen
returns-then-seen c =
    let items = c.args.nodes.now in
    let i = c.loop-node.node-index in
    let x = c.node-item.result in
    let more = nodes_of (drop (i + 1) items) in
    let here = nodes_here items i x (omega arith) c.node-item.is in
    let test = named (name_of c.args.word) in
    let none = word_none c.args.word false c.requires.asked in
    sym (ap (λ s. few s test (nodes_of (drop i items))) c.if-seen.true ∙ ap (few true test) here ∙ few-stop test none (item_of x) more (sym c.node_is.ensures ∙ c.if-node_is.true))
    ∙ c.loop-node.invariant

pub loop-node-preserved : goal.loop-node-preserved
loop-node-preserved c =
    let items = c.args.nodes.now in
    let i = c.loop-node.node-index in
    let x = c.node-item.result in
    let more = nodes_of (drop (i + 1) items) in
    let here = nodes_here items i x (omega arith) c.node-item.is in
    let test = named (name_of c.args.word) in
    let none = word_none c.args.word false c.requires.asked in
    let seen = c.loop-node.seen in
    elim c.if-node_is.branch [
      | then-node_is+else-seen w ↦
          ap (λ s. few s test more) w.seen-is
          ∙ sym (ap (λ s. few s test (nodes_of (drop i items))) w.if-seen.false ∙ ap (few false test) here ∙ few-next test none (item_of x) more (sym c.node_is.ensures ∙ w.if-node_is.true))
          ∙ c.loop-node.invariant
      | else-node_is w ↦
          ap (λ s. few s test more) w.seen-is
          ∙ sym (ap (few seen test) here ∙ few-other seen test none (item_of x) more (sym c.node_is.ensures ∙ w.if-node_is.false))
          ∙ c.loop-node.invariant
    ]
