use Rattle.std.proofs.Common.{sym, ap, ◌∙◌}
use Rattle.redl_tree.specs.Model.Nodes.{End}
use Rattle.redl_tree.specs.Model.View.{Held}
use Rattle.redl_tree.specs.declared.node.Spaced.{Spaced}
use Rattle.redl_tree.proofs.Model.Held.{held_of-Spaced, spaced_of-made, spaced_of-fields}
use Rattle.redl_tree.proofs.node.with_space.Goals as goal

pub returns-clause-close : goal.returns-clause-close
returns-clause-close c =
    ap (λ (h : Held). h.close) (held_of-Spaced _ ∙ spaced_of-made _)
    ∙ ap (λ (s : Spaced). End s.white.now) c.deref_mut.ensures.value
    ∙ sym (ap (λ (h : Held). h.close) (spaced_of-fields _))
