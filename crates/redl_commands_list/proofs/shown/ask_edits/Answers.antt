use Rattle.std.proofs.Common.{◌∙◌, sym}
use Rattle.redl_commands.proofs.AskLaws.{list_any-map}
use Rattle.redl_commands_shown.specs.Shown.{asks}
use Rattle.redl_words.specs.Views.{only_of}
use Rattle.redl_commands_list.proofs.shown.ask_edits.Goals as goal

pub returns : goal.returns
returns c = c.any_asks.ensures ∙ sym (list_any-map asks only_of c.args.wanted.now)
