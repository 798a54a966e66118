use Rattle.std.proofs.Common.{ap, sym, ◌∙◌}
use Rattle.redl_tree.specs.Model.View.{tag_of}
use Rattle.redl_tree.specs.Roles.Arounds.{role_in}
use Rattle.redl_tree.specs.declared.around.Around.{Around}
use Rattle.redl_tree.proofs.Roles.AroundLaws.{role-in}
use Rattle.redl_tree.proofs.around.Around.role.Goals as goal

pub returns-clause-role : goal.returns-clause-role
returns-clause-role c ancestors is =
    let tag = tag_of c.args.elem.now in
    c.role_by_answers.ensures ∙ ap (λ (here : Around). role_in here tag) is ∙ sym (role-in ancestors tag)
