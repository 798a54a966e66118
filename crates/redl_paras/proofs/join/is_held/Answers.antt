use Rattle.std.proofs.Common.{not, sym, ap, ◌∙◌}
use Rattle.redl_paras.proofs.PropsLaws.{idle_is_held}
use Rattle.redl_tree.proofs.Model.Laws.{item_of-Plain}
use Rattle.redl_tree.specs.Model.Kids.{item_is}
use Rattle.redl_tree.specs.Roles.Names.{is}
use Rattle.redl_tree.specs.Model.View.{item_of}
use Rattle.redl_paras.proofs.join.is_held.Goals as goal

pub returns-in-Plain : goal.returns-in-Plain
returns-in-Plain c =
    sym (ap (λ x. item_is (λ tag. not (is "pPr" tag)) (item_of x)) c.in-Plain.is ∙ ap (item_is (λ tag. not (is "pPr" tag))) (item_of-Plain _) ∙ idle_is_held _)
