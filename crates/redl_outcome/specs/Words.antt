-- The words of a call, as they were read.
use Rattle.std.specs.Prelude.{◌≡◌, ℕ, List, [], Some, Result, Ok, Err}
use Rattle.redl_outcome.specs.Brought.{Brought}
use Rattle.redl_outcome.specs.Files.{files_of}
use Rattle.redl_outcome.specs.Outcome.{writing_of}
use Rattle.redl_outcome.specs.Plans.{plan}
use Rattle.redl_commands.specs.Writing.{Writing}
use Rattle.redl_inputs.specs.Readers.{Reader, IsReader}
use Rattle.redl_io.specs.Shelf.{Files}
use Rattle.redl_io.specs.declared.shelf.Request.{Request}
use Rattle.redl_lines.specs.Failures.{Failure, caused, usage, no_memory}
use Rattle.redl_words.specs.Commands.{Command}
use Rattle.redl_words.specs.Views.{command_of}
use Rattle.redl_words.specs.declared.command.Command.{Command as DeclaredCommand}
use Rattle.redl_words.specs.declared.error.WordsError.{WordsError}
use Rattle.redl_words.specs.declared.error.WordsError.TheVariants as error

-- the words as they were read
abbrev pub read_view : Result DeclaredCommand WordsError → Result Command WordsError
read_view (Ok command) = Ok (command_of command)
read_view (Err error) = Err error

-- the files of the command, where the words are one
abbrev pub named_files : Brought → Result DeclaredCommand WordsError → List Request
named_files brought (Ok command) = files_of brought (plan (command_of command))
named_files brought (Err error) = []

-- why a call ends whose words could not be had
abbrev pub words_failure : WordsError → Failure
words_failure error.Usage = caused usage
words_failure error.NoMemory = no_memory

-- What is due where words were read so: what their command writes, or that they have none. Where memory ran out, anything.
abbrev pub IsWanted : Brought → Result Command WordsError → (Reader → Files → Result Writing Failure) → Type 0
IsWanted brought (Ok command) due =
    (reader : Reader) (files : Files) → IsReader reader → due reader files ≡ writing_of reader files brought (Some command)
IsWanted brought (Err error.Usage) due = (reader : Reader) (files : Files) → IsReader reader → due reader files ≡ Err (caused usage)
IsWanted brought (Err error.NoMemory) due = Unit {0}
