use Rattle.std.proofs.Common.{◌∙◌, false, ap}
use Rattle.redl_tree.specs.Model.View.{item_of}
use Rattle.redl_tree.specs.Roles.Names.{named}
use Rattle.redl_tree.specs.Roles.Words.{name_of}
use Rattle.redl_tree.proofs.Idle.Lists.{word_none}
use Rattle.redl_tree.proofs.Model.Laws.{item_of-Plain}
use Rattle.redl_rules.proofs.KidLaws.{is_none}
use Rattle.redl_rules.proofs.kids.node_is.Goals as goal

pub returns-in-Plain : goal.returns-in-Plain
returns-in-Plain c =
    let t = c.in-Plain.field-0 in
    is_none (named (name_of c.args.word)) (word_none c.args.word false c.requires.asked) (item_of c.args.node.now) t (ap item_of c.in-Plain.is ∙ item_of-Plain t)
