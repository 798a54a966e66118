-- What the walk over the text adds is the references of its nodes.
use Rattle.std.proofs.Common.{List, ◌++◌, append-nil, codes, ap, sym, ◌∙◌}
use Rattle.std.proofs.lemmas.Result.{on_ok_weaker}
use Rattle.redl_reading.specs.Lists.{lacks}
use Rattle.redl_tree.specs.Model.IdleTexts.{idle_nodes}
use Rattle.redl_idle.proofs.AheadLaws.{idle_laid}
use Rattle.redl_order.specs.References.{references}
use Rattle.redl_order.specs.declared.reference.Reference.{Reference}
use Rattle.redl_order.proofs.EncodeLaws.{same_references}
use Rattle.redl_order.proofs.FindLaws.{shown_idle}
use Rattle.redl_order.proofs.LackLaws.{none_named}
use Rattle.redl_order.proofs.find.find_idle.Goals as goal

pub returns-then-lacks_word : goal.returns-then-lacks_word
returns-then-lacks_word c =
    let t = c.args.plain.now in
    let old = c.args.seen.now.references.items in
    let none = none_named (idle_nodes t) (idle_laid t) (ap (lacks (codes "Reference")) c.text.ensures.nodes ∙ sym c.lacks_word.ensures ∙ c.if-lacks_word.true) in
    sym (ap (λ (rs : List Reference). old ++ rs) none ∙ append-nil old)

pub returns : goal.returns
returns c =
    on_ok_weaker c.show.result (λ n.
    n.added
    ∙ ap (λ (xs : List Reference). c.args.seen.now.references.items ++ xs)
    (same_references n.found (references (idle_nodes c.args.plain.now)) (sym n.is ∙ shown_idle _ c.args.plain.now))) c.show.ensures
