-- `write P` with journals and locks: the package under the joined verdicts.
use Rattle.std.specs.Prelude.{ℕ, List, Result, Ok}
use Rattle.redl_inputs.specs.Admission.{Admission, opened}
use Rattle.redl_inputs.specs.Readers.{Reader}
use Rattle.redl_inputs.specs.Steps.{◌>>=◌}
use Rattle.redl_commands.specs.Notes.{locked_numbers, noting_gone, with_result_notes}
use Rattle.redl_commands.specs.Writing.{Writing}
use Rattle.redl_io.specs.Shelf.{Files}
use Rattle.redl_lines.specs.Failures.{Failure}
use Rattle.redl_kinds.specs.declared.lock.Lock.{Lock}
use Rattle.redl_session.specs.Sessions.{SessionState, says}
use Rattle.redl_tree.specs.Decisions.Packages.{pass_package}
use Rattle.redl_tree.specs.Model.Nodes.{Nodes}
use Rattle.redl_tree.specs.Model.Text.{text}

-- the text of the session's package under the says of its verdicts
abbrev pub left_text : SessionState → List ℕ
left_text state = text (pass_package (says state) state.nodes)

-- what is left of the session's package under the says of its verdicts
abbrev pub left_nodes : SessionState → Nodes
left_nodes state = pass_package (says state) state.nodes

-- the package after the verdicts, with the remarks of the session, a note of each locked revision that went, one of the marks that are left
-- in the package, and those of what keeps it from being read again
abbrev pub resolved : List Lock → Admission → Writing
resolved locks admission =
    with_result_notes (left_nodes admission.state) (record {
      bytes = left_text admission.state;
      remarks = noting_gone (left_nodes admission.state) (locked_numbers locks admission.state.revisions) admission.remarks;
    })

-- what is written of the package with this text
abbrev pub written : Reader → Files → List Lock → List (List ℕ) → List ℕ → Result Writing Failure
written reader files locks journals whole = do
  admission ← opened reader files locks journals whole
  Ok (resolved locks admission)
