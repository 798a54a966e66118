use Rattle.std.proofs.Common.{◌∙◌, ◌+◌, false, List, not, drop, sym, ap, arith}
use Rattle.std.proofs.lemmas.List.{take_rest}
use Rattle.redl_tree.specs.Model.Kids.{some_element}
use Rattle.redl_tree.specs.Model.View.{nodes_of, item_of}
use Rattle.redl_tree.specs.Roles.Names.{named}
use Rattle.redl_tree.specs.Roles.Words.{name_of}
use Rattle.redl_tree.specs.Rules.Tests.{only_first}
use Rattle.redl_tree.specs.declared.node.Node.{Node}
use Rattle.redl_tree.proofs.Model.Laws.{nodes_here}
use Rattle.redl_tree.proofs.Idle.Lists.{word_none}
use Rattle.redl_rules.proofs.KidLaws.{first-other, first-found}
use Rattle.redl_rules.proofs.kids.is_only_first.Goals as goal

pub returns-then-is_element : goal.returns-then-is_element
returns-then-is_element c =
    let items = c.args.nodes.now in
    let x = c.index-nodes-i.result in
    let more = nodes_of (drop (c.loop-i.i + 1) items) in
    let here = nodes_here items c.loop-i.i x (omega arith) c.index-nodes-i.is in
    let test = named (name_of c.args.word) in
    ap not (c.has_word.ensures ∙ ap (λ (ns : List Node). some_element test (nodes_of ns)) (take_rest items (c.loop-i.i + 1)))
    ∙ sym (ap (only_first test) here ∙ first-found test (word_none c.args.word false c.requires.asked) (item_of x) more (sym c.is_element.ensures ∙ c.if-is_element.true))
    ∙ c.loop-i.invariant

pub loop-i-preserved : goal.loop-i-preserved
loop-i-preserved c =
    let items = c.args.nodes.now in
    let x = c.index-nodes-i.result in
    let more = nodes_of (drop (c.loop-i.i + 1) items) in
    let here = nodes_here items c.loop-i.i x (omega arith) c.index-nodes-i.is in
    let test = named (name_of c.args.word) in
    sym (ap (only_first test) here ∙ first-other test (item_of x) more (sym c.is_element.ensures ∙ c.if-is_element.false)) ∙ c.loop-i.invariant
