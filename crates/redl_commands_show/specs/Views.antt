-- What a clause sees of the code's values.
use Rattle.std.specs.Prelude.{ℕ, List, Result, Ok, Err}
use Rattle.redl_bare.specs.BareText.{bare_text}
use Rattle.redl_commands.specs.Writing.{Writing, only_bytes}
use Rattle.redl_commands_show.specs.declared.text.Shown.{Shown}
use Rattle.redl_commands_show.specs.declared.text.Shown.TheVariants.{Bare, Made, Masked}
use Rattle.redl_io.specs.declared.sink.Failed.{Failed}
use Rattle.redl_lines.specs.Ends.{End, unwritten, written}
use Rattle.redl_lines.specs.Remarks.{no_remarks}
use Rattle.redl_terminal.specs.Masks.{masked}
use Rattle.redl_terminal.specs.declared.extent.Extent.TheVariants.{Lines}

-- what goes out: a text as a terminal is given it, the text itself, or the bare text of a package
abbrev pub shown_text : Shown → List ℕ
shown_text (Masked text) = masked Lines text.items
shown_text (Made text) = text.items
shown_text (Bare counted) = bare_text counted.pkg

-- it goes out, and nothing is remarked
abbrev pub shown_view : Shown → Writing
shown_view shown = only_bytes (shown_text shown)

-- how a call ends with nothing to remark, whose text was put with this result
abbrev pub end_after : {T : Type 0} → Result T Failed → End
end_after (Ok _) = written no_remarks
end_after (Err _) = unwritten no_remarks
