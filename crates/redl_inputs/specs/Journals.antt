-- The entries of journals, or the first cause why a journal is refused.
use Rattle.std.specs.Prelude.{◌↔◌, ℕ, ◌-◌, List, [], ◌∷◌, ◌++◌, length, ◌==◌, not, Option, None, Some, Result, Ok, Err, if◌then◌else◌, Contains}
use Rattle.std.specs.Str.{bytes_eq}
use Rattle.sha2.specs.Sha256.{sha256}
use Rattle.redl_inputs.specs.Readers.{Reader}
use Rattle.redl_inputs.specs.Steps.{file, ◌>>=◌}
use Rattle.redl_index.specs.Numbers.{package_revisions}
use Rattle.redl_io.specs.Shelf.{Files}
use Rattle.redl_join.specs.Books.{union}
use Rattle.redl_journal.specs.Journals.{Journal}
use Rattle.redl_journal.specs.declared.entry.Entry.{Entry}
use Rattle.redl_journal.specs.declared.error.JournalError.{JournalError}
use Rattle.redl_journal.specs.declared.error.JournalError.TheVariants as error
use Rattle.redl_lines.specs.Failures.{Failure, caused, no_memory, malformed, other_document, other_count}
use Rattle.redl_lines.specs.declared.failure.Limit.TheVariants.{JournalBytes}
use Rattle.redl_tree.specs.Model.Nodes.{Nodes}

-- a package as its journals know it: the digest of its bytes, and how many revisions it has
pub record DocumentId : Type 0 where
  pub digest : List ℕ
  pub count : ℕ

-- the package with this text and these nodes
abbrev pub document_of : List ℕ → Nodes → DocumentId
document_of whole nodes = record { digest = sha256 whole; count = package_revisions nodes }

-- a journal, where the text has one
abbrev pub journal_or_none : List ℕ → Option Journal → Result Journal Failure
journal_or_none name None = Err (caused (malformed name))
journal_or_none name (Some journal) = Ok journal

-- why a call ends where the journal of this name was not read
abbrev pub journal_failure : List ℕ → JournalError → Failure
journal_failure name error.Malformed = caused (malformed name)
journal_failure name error.NoMemory = no_memory

-- the entries of a journal that is one of this document
abbrev pub entries_in : DocumentId → List ℕ → Journal → Result (List Entry) Failure
entries_in document name journal =
    if not (bytes_eq journal.digest document.digest) then Err (caused (other_document name journal.digest document.digest))
    else if not (journal.count == document.count) then Err (caused (other_count name journal.count document.count))
    else Ok journal.entries

-- the entries of a text, where it is a journal of this document
abbrev pub entries_of : DocumentId → List ℕ → Option Journal → Result (List Entry) Failure
entries_of document name found = journal_or_none name found >>= entries_in document name

-- the entries of the journal of this name, of at most `left` bytes, with the number of its bytes
abbrev pub journal_at : Reader → Files → DocumentId → ℕ → List ℕ → Result (List Entry × ℕ) Failure
journal_at reader files document left name = do
  whole ← file files name left JournalBytes
  entries ← entries_of document name (reader.journal whole)
  Ok (entries, length whole)

-- The entries of the journals of these names in their order. At most `left` bytes may come of all of them together.
abbrev pub gathered : Reader → Files → DocumentId → ℕ → List (List ℕ) → Result (List Entry) Failure
gathered reader files document left [] = Ok []
gathered reader files document left (name ∷ names) = do
  first ← journal_at reader files document left name
  more ← gathered reader files document (left - first.1) names
  Ok (first.0 ++ more)

-- the same, with how many bytes may still come of other journals
abbrev pub gathered_with : Reader → Files → DocumentId → ℕ → List (List ℕ) → Result (List Entry × ℕ) Failure
gathered_with reader files document left [] = Ok ([], left)
gathered_with reader files document left (name ∷ names) = do
  first ← journal_at reader files document left name
  more ← gathered_with reader files document (left - first.1) names
  Ok (first.0 ++ more.0, more.1)

-- a set of entries with those of the journals of these names, which are of one document
abbrev pub union_with : Reader → Files → DocumentId → ℕ → List Entry → List (List ℕ) → Result (List Entry) Failure
union_with reader files document most before names = do
  entries ← gathered reader files document most names
  Ok (union before entries)

-- the first journal, with the number of its bytes; at most `most` bytes may come
abbrev pub first_journal : Reader → Files → ℕ → List ℕ → Result (Journal × ℕ) Failure
first_journal reader files most name = do
  whole ← file files name most JournalBytes
  journal ← journal_or_none name (reader.journal whole)
  Ok (journal, length whole)

-- the same names, in any order and with repeats
abbrev pub AreSame : List (List ℕ) → List (List ℕ) → Type 0
AreSame names others = (name : List ℕ) → Contains names name ↔ Contains others name
