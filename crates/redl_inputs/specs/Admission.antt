-- What becomes of the entries of journals: those that a session admits, and those that it refuses.
use Rattle.std.specs.Prelude.{ℕ, List, [], Result, Ok}
use Rattle.redl_inputs.specs.Journals.{DocumentId, document_of, gathered, gathered_with}
use Rattle.redl_inputs.specs.Packages.{package_in}
use Rattle.redl_inputs.specs.Readers.{Reader}
use Rattle.redl_inputs.specs.Steps.{◌>>=◌}
use Rattle.redl_inputs.specs.Idle.{idle_locks}
use Rattle.redl_index.specs.Numbers.{numbered_package}
use Rattle.redl_index.specs.Revisions.{revisions_of}
use Rattle.redl_io.specs.Limits.{journal_bytes}
use Rattle.redl_io.specs.Shelf.{Files}
use Rattle.redl_join.specs.Books.{union}
use Rattle.redl_journal.specs.declared.entry.Entry.{Entry}
use Rattle.redl_lines.specs.Refused.{with_refusals}
use Rattle.redl_lines.specs.Remarks.{Remarks}
use Rattle.redl_lines.specs.Failures.{Failure}
use Rattle.redl_kinds.specs.declared.lock.Lock.{Lock}
use Rattle.redl_session.specs.Refusals.{admitted, refusals}
use Rattle.redl_session.specs.Sessions.{SessionState}
use Rattle.redl_tree.specs.Model.Nodes.{Nodes}

-- a session over a package, the package as its journals know it, and what there is to remark: the entries that the session
-- refused, with their causes, and the locks that hold nothing
pub record Admission : Type 0 where
  pub document : DocumentId
  pub state : SessionState
  pub remarks : Remarks

-- a session over the package with this text and these nodes, with these locks, before any entry
abbrev pub no_admission : List ℕ → Nodes → List Lock → Admission
no_admission whole nodes locks = record {
  document = document_of whole nodes;
  state = record { nodes = numbered_package nodes; revisions = revisions_of nodes; locks = locks; book = [] };
  remarks = record { refused = []; second = []; idle = idle_locks (revisions_of nodes) locks; notes = [] };
}

-- after these entries too: the book has those that are not refused, and the refused ones are kept with their causes
abbrev pub admission_with : Admission → List Entry → Admission
admission_with before entries = record before {
  state = record before.state { book = union before.state.book (admitted before.state.revisions before.state.locks entries) };
  remarks = record before.remarks { refused = with_refusals before.remarks.refused (refusals before.state.revisions before.state.locks entries) };
}

-- what becomes of the entries of the journals of these names, of at most `most` bytes together
abbrev pub admission_of : Reader → Files → Admission → ℕ → List (List ℕ) → Result Admission Failure
admission_of reader files before most names = do
  entries ← gathered reader files before.document most names
  Ok (admission_with before entries)

-- the same, with how many bytes may still come of other journals
abbrev pub admission_left : Reader → Files → Admission → ℕ → List (List ℕ) → Result (Admission × ℕ) Failure
admission_left reader files before most names = do
  entries ← gathered_with reader files before.document most names
  Ok (admission_with before entries.0, entries.1)

-- a session over the package with this text and these nodes, without locks, what becomes of the entries of the journals of these
-- names, of at most `most` bytes together, and how many bytes may still come of other journals
abbrev pub sitting_over : Reader → Files → ℕ → List (List ℕ) → List ℕ → Nodes → Result (Admission × ℕ) Failure
sitting_over reader files most names whole nodes = admission_left reader files (no_admission whole nodes []) most names

-- a session over the package with this text and these nodes, with these locks, and what becomes of the entries of
-- the journals of these names
abbrev pub opened_over : Reader → Files → List Lock → List (List ℕ) → List ℕ → Nodes → Result Admission Failure
opened_over reader files locks journals whole nodes = admission_of reader files (no_admission whole nodes locks) journal_bytes journals

-- the same over the package with this text
abbrev pub opened : Reader → Files → List Lock → List (List ℕ) → List ℕ → Result Admission Failure
opened reader files locks journals whole = do
  nodes ← package_in reader whole
  opened_over reader files locks journals whole nodes
