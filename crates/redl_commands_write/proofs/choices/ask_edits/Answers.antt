use Rattle.std.proofs.Common.{◌∙◌, sym}
use Rattle.redl_commands.proofs.AskLaws.{list_any-map}
use Rattle.redl_journal.specs.declared.entry.Word.{Word}
use Rattle.redl_kinds.specs.Selections.{Selection}
use Rattle.redl_kinds.specs.Views.{selection_of}
use Rattle.redl_kinds.specs.declared.selection.Selection as code
use Rattle.redl_select.specs.Selections.{asks_edits}
use Rattle.redl_commands_write.proofs.choices.ask_edits.Goals as goal

pub returns : goal.returns
returns c = c.any_asks.ensures ∙ sym (list_any-map (λ (choice : Word × Selection). asks_edits choice.1) (λ (choice : Word × code.Selection). (choice.0, selection_of choice.1)) c.args.choices.now)
