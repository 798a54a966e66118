use Rattle.std.proofs.Common.{◌∙◌, false, ap}
use Rattle.redl_tree.specs.Model.View.{item_of}
use Rattle.redl_tree.specs.Roles.Lists.{is_thick}
use Rattle.redl_tree.proofs.Idle.Lists.{thick_none}
use Rattle.redl_tree.proofs.Model.Laws.{item_of-Plain}
use Rattle.redl_rules.proofs.KidLaws.{is_none}
use Rattle.redl_rules.proofs.kids.node_is_thick.Goals as goal

pub returns-in-Plain : goal.returns-in-Plain
returns-in-Plain c =
    let t = c.in-Plain.field-0 in
    is_none (is_thick) (thick_none false) (item_of c.args.node.now) t (ap item_of c.in-Plain.is ∙ item_of-Plain t)
