-- What a call answers and leaves behind, by its outcome.
use Rattle.std.specs.Prelude.{◌≡◌, ◌⊎◌, ℕ, List, [], ◌++◌, Option, Some, Contains, Err}
use Rattle.std.specs.Io.KnownBytes.{append_known}
use Rattle.redl_io.specs.Shelf.{Files, Lacks, names_of}
use Rattle.redl_io.specs.declared.shelf.Request.{Request}
use Rattle.redl_io.specs.Sink.{GrowsByFront}
use Rattle.redl_outcome.specs.Outcome.{outcome}
use Rattle.redl_inputs.specs.Asking.{AsksAll, IsLast, refused_journal}
use Rattle.redl_inputs.specs.Readers.{Reader, IsReader}
use Rattle.redl_inputs.specs.Reading.{MayHold}
use Rattle.redl_commands.specs.Writing.{Outcome}
use Rattle.redl_lines.specs.Ends.{Tells}
use Rattle.redl_lines.specs.Failures.{Cause, caused, no_format}
use Rattle.redl_lines.specs.Lines.{failure_line, no_memory_line, unwritten_line, unread_line}
use Rattle.redl_outcome.specs.Files.{asked_by, files_of}
use Rattle.redl_outcome.specs.Brought.{Brought}
use Rattle.redl_outcome.specs.Plans.{Plan, has_asked, plan}
use Rattle.redl_words.specs.Commands.{Command, HasNoCommand, IsCommand}
use Rattle.redl_lines.specs.declared.status.Status.{Status}
use Rattle.redl_lines.specs.declared.status.Status.TheVariants as status

-- where the shelf tells what it holds, or the words ask for no file, this holds of the call's outcome
abbrev pub OfOutcome : Option Files → List (List ℕ) → Brought → (Outcome → Type 0) → Type 0
OfOutcome told words brought Holds =
    (files : Files) (reader : Reader) → IsReader reader → MayHold told (asked_by brought (reader.command words)) files
    → Holds (outcome reader words files brought)

-- a call with this outcome writes
abbrev pub IsWritten : Status → Type 0
IsWritten s = (s ≡ status.Done) ⊎ (s ≡ status.Refused)

-- the status is the outcome's, but for what the outside forces: a read fault, a write fault, and an allocation that failed
abbrev pub IsAnswer : Status → Outcome → Type 0 → Type 0 → Type 0
IsAnswer status.NoMemory outcome read_failed write_failed = Unit {0}
IsAnswer status.ReadFault outcome read_failed write_failed = read_failed ⊎ (outcome.status ≡ status.ReadFault)
IsAnswer status.WriteFault outcome read_failed write_failed = write_failed × IsWritten outcome.status
IsAnswer s outcome read_failed write_failed = outcome.status ≡ s

-- the output gained the bytes where all was written, a prefix of them with `WriteFault`, and nothing with any other status
abbrev pub Writes : {K : Type 0} → (K → Option (List ℕ)) → K → K → Status → List ℕ → Type 0
Writes told old new status.Done bytes = told new ≡ append_known (told old) bytes
Writes told old new status.Refused bytes = told new ≡ append_known (told old) bytes
Writes told old new status.WriteFault bytes = GrowsByFront (told old) (told new) bytes
Writes told old new _ bytes = told new ≡ told old

-- the words are those of a command, the format that it asks for is there, and this is the name of one of its files
pub record IsFileOf (words : List (List ℕ)) (brought : Brought) (name : List ℕ) : Type 0 where
  pub command : Command
  pub reads : IsCommand words command
  pub among : Contains (names_of (files_of brought (plan command))) name

-- a command with this plan asks for a format that is not there
abbrev pub LacksFormat : Brought → Plan → Type 0
LacksFormat brought plan = (name : List ℕ) × (has_asked brought plan ≡ Err (caused (no_format name)))

-- the words are those of no command, or of one that asks for a format that is not there
abbrev pub AreMisused : List (List ℕ) → Brought → Type 0
AreMisused words brought = HasNoCommand words ⊎ ((command : Command) × IsCommand words command × LacksFormat brought (plan command))

-- a read fault's line: the outcome's, where that is a read fault itself, or that of some file of the command where a fetch
-- failed
abbrev pub IsUnreadLine : Outcome → List (List ℕ) → Brought → Type 0 → List ℕ → Type 0
IsUnreadLine outcome words brought read_failed lines =
    ((outcome.status ≡ status.ReadFault) × (lines ≡ outcome.lines))
    ⊎ (read_failed × ((name : List ℕ) × IsFileOf words brought name × (lines ≡ unread_line name)))

-- the lines are the outcome's, but for what the outside forces
abbrev pub AreLines : Status → Outcome → List (List ℕ) → Brought → Type 0 → List ℕ → Type 0
AreLines status.NoMemory outcome words brought read_failed lines = lines ≡ no_memory_line
AreLines status.ReadFault outcome words brought read_failed lines = IsUnreadLine outcome words brought read_failed lines
AreLines status.WriteFault outcome words brought read_failed lines = lines ≡ outcome.lines ++ unwritten_line
AreLines _ outcome words brought read_failed lines = lines ≡ outcome.lines

-- some lines went out of which this holds
abbrev pub TellsSome : {K : Type 0} → (K → Option (List ℕ)) → (K → ℕ) → K → K → (List ℕ → Type 0) → Type 0
TellsSome told faults old new Holds = (lines : List ℕ) × Holds lines × Tells told faults old new lines

-- why a read fault may be answered: the words ask for files, and the shelf failed or lacks one of them
abbrev pub MayFault : List (List ℕ) → Brought → Option Files → Type 0 → Type 0
MayFault words brought told failed = (name : List ℕ) × IsFileOf words brought name × (failed ⊎ Lacks told name)

-- the last of these names is told
pub record TellsLast (names : List (List ℕ)) (Told : List ℕ → Type 0) : Type 0 where
  pub name : List ℕ
  pub last : IsLast names name
  pub told : Told (unread_line name)

-- the last of these names is that of a journal that is refused, and the line tells why
pub record TellsRefused (names : List (List ℕ)) (Told : List ℕ → Type 0) : Type 0 where
  pub name : List ℕ
  pub cause : Cause
  pub refuses : refused_journal cause ≡ Some name
  pub last : IsLast names name
  pub told : Told (failure_line (caused cause))

-- Where a call put its output, no file is left. Where a file could not be read, or a journal was refused, the line tells the last one that was asked for.
abbrev pub AsksUpTo : Status → List (List ℕ) → List Request → (List ℕ → Type 0) → Type 0
AsksUpTo status.Done names later Told = later ≡ []
AsksUpTo status.Refused names later Told = later ≡ []
AsksUpTo status.WriteFault names later Told = later ≡ []
AsksUpTo status.ReadFault names later Told = TellsLast names Told
AsksUpTo status.Journal names later Told = TellsRefused names Told
AsksUpTo _ names later Told = Unit {0}

-- a call with this status, which told lines of which this holds, asked a shelf for the first ones of these files, in their order, each once and within its cap
pub record Asks (old new : Option (List Request)) (wanted : List Request) (status : Status) (Told : List ℕ → Type 0) : Type 0 where
  pub front : List Request
  pub later : List Request
  pub prefix : wanted ≡ front ++ later
  pub asked : AsksAll old new front
  pub ends : AsksUpTo status (names_of front) later Told
