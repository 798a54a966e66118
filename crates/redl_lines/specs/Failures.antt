-- Why a call ends without its output, and the status of each cause.
use Rattle.std.specs.Prelude.{ℕ, List, Result, Ok, Err}
use Rattle.redl_lines.specs.declared.failure.Limit.{Limit}
use Rattle.redl_lines.specs.declared.failure.PackageFault.{PackageFault}
use Rattle.redl_lines.specs.declared.failure.Cause.{Cause as DeclaredCause}
use Rattle.redl_lines.specs.declared.failure.Cause.TheVariants as cause
use Rattle.redl_lines.specs.declared.failure.Failure.{Failure as DeclaredFailure}
use Rattle.redl_lines.specs.declared.failure.Failure.TheVariants as failure
use Rattle.redl_lines.specs.declared.misuse.Misuse.{Misuse}
use Rattle.redl_lines.specs.declared.misuse.Misuse.TheVariants as misuse
use Rattle.redl_lines.specs.declared.status.Status.{Status}
use Rattle.redl_lines.specs.declared.status.Status.TheVariants as status

-- what in the words or in the files makes a call end without its output
pub data Cause : Type 0 where
  -- the words are no command
  usage : Cause
  -- no listing format has this name
  no_format : List ℕ → Cause
  -- the file is no package
  no_package : PackageFault → Cause
  -- the second of two files is no package
  no_second : PackageFault → Cause
  -- the journal of this name has no reading
  malformed : List ℕ → Cause
  -- the journal of this name has the first digest, and the package the second
  other_document : List ℕ → List ℕ → List ℕ → Cause
  -- the journal of this name has the first count of revisions, and the package the second
  other_count : List ℕ → ℕ → ℕ → Cause
  -- this reviewer has no sequence number left
  no_sequence : List ℕ → Cause
  -- the second package isn't what the first one's journals leave of it
  not_written : Cause
  -- two sittings come to different documents
  differ : Cause
  -- a quantity is over its limit
  over : Limit → Cause

-- why a call ends without its output
pub data Failure : Type 0 where
  -- by the words and the files
  caused : Cause → Failure
  -- the file of this name is missing, or could not be fetched
  unread : List ℕ → Failure
  no_memory : Failure

-- what a clause sees of the code's causes
abbrev pub cause_view : DeclaredCause → Cause
cause_view (cause.Package fault) = no_package fault
cause_view (cause.Second fault) = no_second fault
cause_view (cause.Malformed name) = malformed name.now
cause_view (cause.OtherDocument journal found expected) = other_document journal.now found expected
cause_view (cause.OtherCount journal found expected) = other_count journal.now found expected
cause_view (cause.NoSequence reviewer) = no_sequence reviewer.now
cause_view cause.NotWritten = not_written
cause_view cause.Differ = differ
cause_view (cause.Limit limit) = over limit

-- a misuse of the words as the cause that it is
abbrev pub misuse_cause : Misuse → Cause
misuse_cause misuse.Words = usage
misuse_cause (misuse.NoFormat name) = no_format name.now

-- a failure of the code as plain data
abbrev pub failure_view : DeclaredFailure → Failure
failure_view (failure.Cause c) = caused (cause_view c)
failure_view (failure.Unread name) = unread name.now
failure_view failure.NoMemory = no_memory

-- what the words ask for, seen by the view, or why there is no such thing
abbrev pub asked_view : {X Y : Type 0} → (X → Y) → Result X Misuse → Result Y Failure
asked_view view (Ok x) = Ok (view x)
asked_view view (Err misuse) = Err (caused (misuse_cause misuse))

-- the exit status for a cause
abbrev pub cause_status : Cause → Status
cause_status usage = status.Usage
cause_status (no_format name) = status.Usage
cause_status (no_package fault) = status.Package
cause_status (no_second fault) = status.Package
cause_status (malformed name) = status.Journal
cause_status (other_document name found expected) = status.Journal
cause_status (other_count name found expected) = status.Journal
cause_status (no_sequence reviewer) = status.Sequence
cause_status not_written = status.NotWritten
cause_status differ = status.Differ
cause_status (over limit) = status.Limit

-- the exit status for a failure
abbrev pub failure_status : Failure → Status
failure_status (caused cause) = cause_status cause
failure_status (unread name) = status.ReadFault
failure_status no_memory = status.NoMemory
