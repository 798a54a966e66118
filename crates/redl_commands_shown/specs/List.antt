-- `list P` with a format, journals and locks: a row for each revision that is shown, with the verdict on it.
use Rattle.std.specs.Prelude.{ℕ, Bool, List, [], map, length, if◌then◌else◌, Result, Ok}
use Rattle.redl_inputs.specs.Admission.{Admission, opened}
use Rattle.redl_commands_shown.specs.Shown.{shown_revisions}
use Rattle.redl_commands_shown.specs.Formats.{Format, format_named}
use Rattle.redl_inputs.specs.Readers.{Reader}
use Rattle.redl_inputs.specs.Steps.{◌>>=◌}
use Rattle.redl_remarks.specs.Remarked.{remarked_details}
use Rattle.redl_commands.specs.Writing.{Writing}
use Rattle.redl_edits.specs.Edits.{package_edits}
use Rattle.redl_excerpts.specs.declared.detail.Detail.{Detail}
use Rattle.redl_io.specs.Shelf.{Files}
use Rattle.redl_join.specs.declared.verdict.Verdict.{Verdict}
use Rattle.redl_lines.specs.Failures.{Failure}
use Rattle.redl_listing.specs.Rows.{shown_rows, shows_details, told_rows}
use Rattle.redl_listing.specs.declared.row.Row.{Row}
use Rattle.redl_opc.specs.Parts.{name_in}
use Rattle.redl_opc.specs.Shape.{parts_of}
use Rattle.redl_kinds.specs.declared.lock.Lock.{Lock}
use Rattle.redl_session.specs.Says.{verdicts_of}
use Rattle.redl_session.specs.Sessions.{SessionState}
use Rattle.redl_tree.specs.Model.Nodes.{Nodes}
use Rattle.redl_words.specs.Shown.{Only}

-- the decoded names of the parts of a package
abbrev pub part_names : Nodes → List (List ℕ)
part_names nodes = map (λ part. name_in part.tag) (parts_of nodes)

-- the verdicts of a session's book
abbrev pub session_verdicts : SessionState → List Verdict
session_verdicts state = verdicts_of state.book (length state.revisions)

-- which of a session's revisions each of what is wanted shows
abbrev pub session_shown : List Only → SessionState → List Bool
session_shown wanted state = shown_revisions (package_edits state.nodes state.revisions) wanted state.revisions (session_verdicts state)

-- the details of those that are shown, where the format shows details
unfoldable pub session_details : List ℕ → List Only → SessionState → List Detail
session_details name wanted state =
    if shows_details name then remarked_details state.nodes state.revisions (session_shown wanted state) state.book else []

-- a row for each revision of a session's package that is shown, with the verdict of the session's book, for the format with this name
abbrev pub session_rows : List ℕ → List Only → SessionState → List Row
session_rows name wanted state =
    shown_rows (session_shown wanted state)
    (told_rows (part_names state.nodes) state.revisions (session_verdicts state) (session_details name wanted state))

-- the text of the format for these rows
abbrev pub listing : List ℕ → List Only → Admission → Format Row → Writing
listing name wanted admission format = record { bytes = format.text (session_rows name wanted admission.state); remarks = admission.remarks }

-- the same in the first format that has the name
abbrev pub listing_named : List (Format Row) → List ℕ → List Only → Admission → Result Writing Failure
listing_named formats name wanted admission = do
  format ← format_named formats name
  Ok (listing name wanted admission format)

-- what is written of the package with this text
abbrev pub listed : Reader → Files → List (Format Row) → List ℕ → List Lock → List (List ℕ) → List Only → List ℕ → Result Writing Failure
listed reader files formats name locks journals wanted whole = do
  admission ← opened reader files locks journals whole
  listing_named formats name wanted admission
