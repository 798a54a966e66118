-- `join J ..`: the journal of the union of these journals, which are of one document.
use Rattle.std.specs.Prelude.{ℕ, ◌-◌, List, [], ◌∷◌, Result, Ok, Err}
use Rattle.redl_inputs.specs.Journals.{DocumentId, first_journal, union_with}
use Rattle.redl_inputs.specs.Readers.{Reader}
use Rattle.redl_inputs.specs.Steps.{◌>>=◌}
use Rattle.redl_commands.specs.Writing.{Writing, only_bytes}
use Rattle.redl_io.specs.Shelf.{Files}
use Rattle.redl_join.specs.Books.{union}
use Rattle.redl_journal.specs.Journals.{Journal, written_text}
use Rattle.redl_journal.specs.declared.entry.Entry.{Entry}
use Rattle.redl_lines.specs.Failures.{Failure, caused, usage}

-- the document that a journal is of
abbrev pub document_in : Journal → DocumentId
document_in journal = record { digest = journal.digest; count = journal.count }

-- the journal of a set of entries
abbrev pub book_text : DocumentId → List Entry → List ℕ
book_text document book = written_text (record { digest = document.digest; count = document.count; entries = book })

-- the set of the entries of a first journal and of others
abbrev pub union_of : Reader → Files → ℕ → Journal × ℕ → List (List ℕ) → Result (List Entry) Failure
union_of reader files most first names =
    union_with reader files (document_in first.0) (most - first.1) (union [] first.0.entries) names

-- what is written of the journals of these names
abbrev pub joined : Reader → Files → ℕ → List (List ℕ) → Result Writing Failure
joined reader files most [] = Err (caused usage)
joined reader files most (name ∷ names) = do
  first ← first_journal reader files most name
  book ← union_of reader files most first names
  Ok (only_bytes (book_text (document_in first.0) book))
