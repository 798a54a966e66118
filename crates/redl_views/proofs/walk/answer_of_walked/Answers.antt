use Rattle.std.proofs.Common.{sym}
use Rattle.redl_tree.specs.Model.View.{tag_of, kids_of}
use Rattle.redl_views.proofs.WalkLaws.{gives-walked}
use Rattle.redl_views.proofs.walk.answer_of_walked.Goals as goal

pub returns-clause-gives : goal.returns-clause-gives
returns-clause-gives c = sym (gives-walked c.args.says.now c.args.above (tag_of c.args.elem.now) (kids_of c.args.elem.now) c.args.full c.requires)
