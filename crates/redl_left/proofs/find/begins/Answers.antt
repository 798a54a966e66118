use Rattle.std.proofs.Common.{ap, sym, ◌∙◌, is_some}
use Rattle.redl_shown.proofs.ShownLaws.{begins-behind}
use Rattle.redl_left.proofs.find.begins.Goals as goal

pub returns-in-Some : goal.returns-in-Some
returns-in-Some c = sym (begins-behind c.args.front.now c.args.value.now ∙ ap is_some c.in-Some.ensures)

pub returns-in-None : goal.returns-in-None
returns-in-None c = sym (begins-behind c.args.front.now c.args.value.now ∙ ap is_some c.in-None.ensures)
