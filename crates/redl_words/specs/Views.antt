-- The code's commands as plain data.
use Rattle.std.specs.Prelude.{List, map}
use Rattle.redl_journal.specs.declared.entry.Word.{Word}
use Rattle.redl_kinds.specs.declared.selection.Selection as code_selection
use Rattle.redl_kinds.specs.Selections.{Selection}
use Rattle.redl_kinds.specs.Views.{selection_of}
use Rattle.redl_words.specs.declared.command.Command as code
use Rattle.redl_words.specs.declared.only.Only as code_only
use Rattle.redl_words.specs.declared.only.Only.TheVariants as onlys
use Rattle.redl_words.specs.Shown.{Only, chosen, decided}
use Rattle.redl_words.specs.declared.command.Command.TheVariants as variants
use Rattle.redl_words.specs.Commands.{Command, settle, view_text, list, report, page, write, decide, resume, join, check, sample}

-- the choices with their selections as plain data
abbrev pub choices_view : List (Word × code_selection.Selection) → List (Word × Selection)
choices_view choices = map (λ choice. (choice.0, selection_of choice.1)) choices

-- what is shown, with its selections as plain data
abbrev pub only_of : code_only.Only → Only
only_of (onlys.Chosen selection) = chosen (selection_of selection)
only_of (onlys.Decided verdict) = decided verdict

-- the choices of a listing as plain data
abbrev pub onlys_view : List code_only.Only → List Only
onlys_view = map only_of

-- a command of the code as plain data
abbrev pub command_of : code.Command → Command
command_of (variants.Settle accept p) = settle accept p
command_of (variants.Text p view) = view_text p view
command_of (variants.List c) = list c.package c.format c.locks.items c.journals.items (onlys_view c.only.items)
command_of (variants.Page c) = page c.package c.title c.rank c.pictures c.locks.items c.journals.items
command_of (variants.Report c) = report c.package c.format c.by_kind c.locks.items c.journals.items
command_of (variants.Write p locks journals) = write p locks.items journals.items
command_of (variants.Decide c) = decide c.package c.reviewer c.journals.items c.locks.items (choices_view c.choices.items) c.rank
command_of (variants.Resume c) = resume c.package c.second c.firsts.items c.journals.items
command_of (variants.Join journals) = join journals.items
command_of (variants.Check p) = check p
command_of (variants.Sample number) = sample number
