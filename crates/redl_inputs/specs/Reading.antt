-- What a step of a call does that takes files from the shelf.
use Rattle.std.specs.Prelude.{◌≡◌, ◌⊎◌, ℕ, List, [], Option, None, Some, IfSome, Result, Ok, Err, Contains, take}
use Rattle.redl_inputs.specs.Asking.{AsksFor, refused_journal}
use Rattle.redl_inputs.specs.Readers.{Reader, IsReader}
use Rattle.redl_io.specs.Faults.{Rose}
use Rattle.redl_io.specs.Shelf.{Files, Lacks, names_of}
use Rattle.redl_io.specs.declared.shelf.Request.{Request}
use Rattle.redl_lines.specs.Failures.{Failure, caused, unread, no_memory}

-- what was made is what was due, but for what the outside forces: a failed fetch, and an allocation that failed
abbrev pub IsMade : {Y : Type 0} → Result Y Failure → Result Y Failure → Type 0 → Type 0
IsMade (Ok y) due failed = due ≡ Ok y
IsMade (Err no_memory) due failed = Unit {0}
IsMade (Err (unread name)) due failed = failed ⊎ (due ≡ Err (unread name))
IsMade (Err (caused cause)) due failed = due ≡ Err (caused cause)

-- a file couldn't be read: it is one of these, and a fetch failed or the shelf lacks it
abbrev pub IsUnread : {Y : Type 0} → Result Y Failure → List (List ℕ) → Option Files → Type 0 → Type 0
IsUnread (Err (unread name)) names told failed = Contains names name × (failed ⊎ Lacks told name)
IsUnread made names told failed = Unit {0}

-- this holds unless a file couldn't be read
abbrev pub UnlessUnread : {Y : Type 0} → Result Y Failure → Type 0 → Type 0
UnlessUnread (Err (unread name)) Holds = Unit {0}
UnlessUnread made Holds = Holds

-- these may be the files of a shelf: it tells that they are, or it is asked for no file
abbrev pub MayHold : {T : Type 0} → Option Files → List T → Files → Type 0
MayHold told wanted files = (told ≡ Some files) ⊎ (wanted ≡ [])

-- a step took these files from a shelf, in their order and within their caps, and made what was due
pub record ReadsFiles {S Y : Type 0} (told : S → Option Files) (faults : S → ℕ) (asked : S → Option (List Request)) (old new : S) (wanted : List Request)
    (made : Result Y Failure) (due : Reader → Files → Result Y Failure) : Type 0 where
  pub as_due : (files : Files) → MayHold (told old) wanted files → (reader : Reader) → IsReader reader
      → IsMade made (due reader files) (Rose (faults old) (faults new))
  pub unread : IsUnread made (names_of wanted) (told old) (Rose (faults old) (faults new))
  pub same_files : told new ≡ told old
  pub stands : UnlessUnread made (faults new ≡ faults old)
  pub asks : AsksFor (asked old) (asked new) wanted made

-- the first bytes of a file, at most so many
abbrev pub front_of : ℕ → Result (List ℕ) Failure → Result (List ℕ) Failure
front_of cap (Ok whole) = Ok (take cap whole)
front_of cap (Err failure) = Err failure

-- a result of a step that takes no file: it is no file that could not be read, and no journal that was refused but this one
abbrev pub IsOfNoFile : {Y : Type 0} → Option (List ℕ) → Result Y Failure → Type 0
IsOfNoFile journal (Ok y) = Unit {0}
IsOfNoFile journal (Err (unread name)) = ⊥
IsOfNoFile journal (Err no_memory) = Unit {0}
IsOfNoFile journal (Err (caused cause)) = IfSome (refused_journal cause) (λ name. journal ≡ Some name)

-- a step that takes no file, and may refuse this journal, made what was due
pub record ReadsText {Y : Type 0} (journal : Option (List ℕ)) (made : Result Y Failure) (due : Reader → Result Y Failure) : Type 0 where
  pub as_due : (reader : Reader) → IsReader reader → IsMade made (due reader) ⊥
  pub of_no_file : IsOfNoFile journal made

-- the same of one that refuses no journal
abbrev pub Reads : {Y : Type 0} → Result Y Failure → (Reader → Result Y Failure) → Type 0
Reads made due = ReadsText None made due
