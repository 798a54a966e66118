-- `decide P REVIEWER` with choices: the journal of what the reviewer decides, with the entries of the journals.
use Rattle.std.specs.Prelude.{ℕ, ◌+◌, ◌-◌, ◌^◌, ◌==◌, List, Result, Ok, Err, if◌then◌else◌}
use Rattle.redl_inputs.specs.Admission.{Admission, admission_with, opened}
use Rattle.redl_commands.specs.Choices.{chosen_entries}
use Rattle.redl_commands.specs.Join.{book_text}
use Rattle.redl_inputs.specs.Readers.{Reader}
use Rattle.redl_inputs.specs.Steps.{◌>>=◌}
use Rattle.redl_commands.specs.Writing.{Writing}
use Rattle.redl_edits.specs.Edits.{package_edits}
use Rattle.redl_io.specs.Shelf.{Files}
use Rattle.redl_join.specs.Verdicts.{greatest_seq}
use Rattle.redl_journal.specs.declared.entry.Word.{Word}
use Rattle.redl_lines.specs.Failures.{Failure, caused, no_sequence}
use Rattle.redl_kinds.specs.Selections.{Selection}
use Rattle.redl_kinds.specs.declared.lock.Lock.{Lock}

-- the sequence number after this one; the greatest there is has none after it
abbrev pub next_seq : List ℕ → ℕ → Result ℕ Failure
next_seq reviewer seq = if seq == 2 ^ 32 - 1 then Err (caused (no_sequence reviewer)) else Ok (seq + 1)

-- what becomes of the reviewer's choices with this rank, whose sequence number is the one after the reviewer's greatest in the book
abbrev pub with_choices : List ℕ → ℕ → List (Word × Selection) → Admission → Result Admission Failure
with_choices reviewer rank choices before = do
  seq ← next_seq reviewer (greatest_seq before.state.book reviewer)
  Ok (admission_with before (chosen_entries reviewer rank seq before.state.revisions (package_edits before.state.nodes before.state.revisions) choices))

-- the journal of the session's book
abbrev pub book_written : Admission → Writing
book_written admission = record { bytes = book_text admission.document admission.state.book; remarks = admission.remarks }

-- what is written of the package with this text
abbrev pub chosen_journal : Reader → Files → List ℕ → ℕ → List Lock → List (List ℕ) → List (Word × Selection) → List ℕ → Result Writing Failure
chosen_journal reader files reviewer rank locks journals choices whole = do
  before ← opened reader files locks journals whole
  admission ← with_choices reviewer rank choices before
  Ok (book_written admission)
