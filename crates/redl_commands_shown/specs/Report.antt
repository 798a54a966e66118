-- `report P` with a format, journals and locks: where each reviewer and each author stands.
use Rattle.std.specs.Prelude.{ℕ, Bool, true, false, List, Result, Ok}
use Rattle.redl_inputs.specs.Admission.{Admission, opened}
use Rattle.redl_inputs.specs.Readers.{Reader}
use Rattle.redl_inputs.specs.Steps.{◌>>=◌}
use Rattle.redl_commands_shown.specs.Formats.{Format, format_named}
use Rattle.redl_commands.specs.Writing.{Writing}
use Rattle.redl_io.specs.Shelf.{Files}
use Rattle.redl_lines.specs.Failures.{Failure}
use Rattle.redl_report.specs.Reports.{report_lines, report_lines_by_kind}
use Rattle.redl_report.specs.declared.line.ReportLine.{ReportLine}
use Rattle.redl_kinds.specs.declared.lock.Lock.{Lock}
use Rattle.redl_session.specs.Sessions.{SessionState}

-- the lines of a session: of the reviewers of its book, and of the authors of its revisions, with their kinds or without
abbrev pub session_lines : Bool → SessionState → List ReportLine
session_lines true state = report_lines_by_kind state.revisions state.book
session_lines false state = report_lines state.revisions state.book

-- the text of the format for these lines
abbrev pub report_of : Bool → Admission → Format ReportLine → Writing
report_of by_kind admission format = record { bytes = format.text (session_lines by_kind admission.state); remarks = admission.remarks }

-- the same in the first format that has the name
abbrev pub report_named : List (Format ReportLine) → List ℕ → Bool → Admission → Result Writing Failure
report_named reports name by_kind admission = do
  format ← format_named reports name
  Ok (report_of by_kind admission format)

-- what is written of the package with this text
abbrev pub reported : Reader → Files → List (Format ReportLine) → List ℕ → Bool → List Lock → List (List ℕ) → List ℕ → Result Writing Failure
reported reader files reports name by_kind locks journals whole = do
  admission ← opened reader files locks journals whole
  report_named reports name by_kind admission
