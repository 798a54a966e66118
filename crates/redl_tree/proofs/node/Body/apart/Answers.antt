use Rattle.std.proofs.Common.{sym, ap, ◌∙◌}
use Rattle.redl_tree.specs.Model.Nodes.{End}
use Rattle.redl_tree.specs.Model.View.{Held, held_of, nodes_of}
use Rattle.redl_tree.specs.declared.node.Spaced.{Spaced}
use Rattle.redl_tree.proofs.Model.Held.{held_of-Spaced, spaced_of-made, spaced_of-fields}
use Rattle.redl_tree.proofs.node.Body.apart.Goals as goal

pub returns-in-Spaced-clause-bare : goal.returns-in-Spaced-clause-bare
returns-in-Spaced-clause-bare c =
    ap (λ (h : Held). h.kids) (held_of-Spaced _ ∙ spaced_of-made _)
    ∙ ap (λ v. nodes_of v.items) c.replace-kids.ensures.after ∙ ap nodes_of c.new-in-Spaced.ensures.items

pub returns-in-Spaced-clause-close : goal.returns-in-Spaced-clause-close
returns-in-Spaced-clause-close c =
    ap (λ (h : Held). h.close) (held_of-Spaced _ ∙ spaced_of-made _)
    ∙ ap (λ (s : Spaced). End s.white.now) c.deref_mut.ensures.value
    ∙ sym (ap (λ (h : Held). h.close) (ap held_of c.in-Spaced.is ∙ held_of-Spaced _ ∙ spaced_of-fields _))
