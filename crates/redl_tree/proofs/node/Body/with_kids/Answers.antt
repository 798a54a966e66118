use Rattle.std.proofs.Common.{sym, ap, ◌∙◌}
use Rattle.redl_tree.specs.Model.View.{Held, held_of}
use Rattle.redl_tree.proofs.Model.Held.{held_of-Empty}
use Rattle.redl_tree.proofs.node.Body.with_kids.Goals as goal

pub returns-in-Empty-clause-kids : goal.returns-in-Empty-clause-kids
returns-in-Empty-clause-kids c =
    ap (λ (h : Held). h.kids) held_of-Empty ∙ sym (c.requires (ap (λ (h : Held). h.close) (ap held_of c.in-Empty.is ∙ held_of-Empty)))
