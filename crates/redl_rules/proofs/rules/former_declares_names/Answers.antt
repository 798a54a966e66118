use Rattle.std.proofs.Common.{◌≡◌, ◌∙◌, ◌+◌, false, drop, sym, ap, arith}
use Rattle.redl_tree.specs.Model.Kids.{item_is}
use Rattle.redl_tree.specs.Model.View.{nodes_of, item_of}
use Rattle.redl_tree.specs.Roles.Names.{named}
use Rattle.redl_tree.specs.Roles.Words.{name_of}
use Rattle.redl_tree.specs.Rules.Sound.{former_declares}
use Rattle.redl_tree.proofs.Model.Laws.{nodes_here, item_of-Elem, item_of-Bytes, item_of-Plain}
use Rattle.redl_tree.proofs.Idle.Items.{none_idle}
use Rattle.redl_tree.proofs.Idle.Lists.{word_none}
use Rattle.redl_rules.specs.Attributes.{declares}
use Rattle.redl_rules.proofs.KidLaws.{former-other}
use Rattle.redl_rules.proofs.rules.former_declares_names.Goals as goal
use Rattle.redl_rules.proofs.rules.former_declares_names.Goals.{in-Elem+else-is_word, in-Bytes, in-Plain}

pub loop-node-preserved : goal.loop-node-preserved
loop-node-preserved c =
    let items = c.args.kids.now in
    let i = c.loop-node.node-index in
    let x = c.node-item.result in
    let more = nodes_of (drop (i + 1) items) in
    let here = nodes_here items i x (omega arith) c.node-item.is in
    let name = name_of c.args.word in
    let none = word_none c.args.word false c.requires.asked in
    let is_other : item_is (named name) (item_of x) ≡ false =
    elim c.match-node.branch [
      | in-Elem+else-is_word w ↦ ap (item_is (named name)) (ap item_of w.in-Elem.is ∙ item_of-Elem w.in-Elem.elem) ∙ sym w.is_word.ensures ∙ w.if-is_word.false
      | in-Bytes w ↦ ap (item_is (named name)) (ap item_of w.in-Bytes.is ∙ item_of-Bytes w.in-Bytes.field-0)
      | in-Plain w ↦ ap (item_is (named name)) (ap item_of w.in-Plain.is ∙ item_of-Plain w.in-Plain.field-0) ∙ none_idle (named name) none w.in-Plain.field-0
    ] in
    sym (ap (former_declares declares name) here ∙ former-other declares name none (item_of x) more is_other) ∙ c.loop-node.invariant
