use Rattle.std.proofs.Common.{ap, sym, ◌∙◌, is_some}
use Rattle.redl_shown.proofs.ShownLaws.{begins-behind}
use Rattle.redl_shown.proofs.parts.begins.Goals as goal

pub returns-in-Some : goal.returns-in-Some
returns-in-Some c = sym (begins-behind c.args.word.now c.args.bytes.now ∙ ap is_some c.in-Some.ensures)

pub returns-in-None : goal.returns-in-None
returns-in-None c = sym (begins-behind c.args.word.now c.args.bytes.now ∙ ap is_some c.in-None.ensures)
