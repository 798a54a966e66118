use Rattle.std.proofs.Common.{◌∙◌, false, ap}
use Rattle.redl_tree.specs.Model.View.{item_of}
use Rattle.redl_tree.specs.Roles.Arounds.{role_in}
use Rattle.redl_tree.specs.Roles.Kinds.{is_change}
use Rattle.redl_tree.proofs.Model.Laws.{item_of-Plain}
use Rattle.redl_rules.proofs.KidLaws.{is_none, none_changes}
use Rattle.redl_rules.proofs.kids.node_is_change.Goals as goal

pub returns-in-Plain : goal.returns-in-Plain
returns-in-Plain c =
    let t = c.in-Plain.field-0 in
    is_none (λ kid. is_change (role_in c.args.around kid)) (none_changes false c.args.around) (item_of c.args.node.now) t (ap item_of c.in-Plain.is ∙ item_of-Plain t)
