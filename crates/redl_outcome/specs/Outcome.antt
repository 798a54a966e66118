-- What a call of the program comes to: a function of the words, of what the shelf holds, of what the program brings, and of how
-- texts are read.
use Rattle.std.specs.Prelude.{ℕ, List, Option, None, Some, Result, Err}
use Rattle.redl_outcome.specs.Brought.{Brought}
use Rattle.redl_outcome.specs.Plans.{Plan, has_asked, made_by, plan}
use Rattle.redl_commands.specs.Writing.{Writing, Outcome, outcome_of}
use Rattle.redl_inputs.specs.Readers.{Reader}
use Rattle.redl_inputs.specs.Steps.{◌>>=◌}
use Rattle.redl_io.specs.Shelf.{Files}
use Rattle.redl_lines.specs.Failures.{Failure, caused, usage}
use Rattle.redl_words.specs.Commands.{Command}

-- what a command writes, or why it writes nothing: first the format is looked for, then something is made
abbrev pub carried_out : Reader → Files → Brought → Plan → Result Writing Failure
carried_out reader files brought plan = do
  there ← has_asked brought plan
  made_by reader files brought plan.makes

-- what is written, or why nothing is: the first cause, in the order of the words, the format, the package and the journals
abbrev pub writing_of : Reader → Files → Brought → Option Command → Result Writing Failure
writing_of reader files brought None = Err (caused usage)
writing_of reader files brought (Some command) = carried_out reader files brought (plan command)

-- what a call with these words over these files comes to, with what the program brings
abbrev pub outcome : Reader → List (List ℕ) → Files → Brought → Outcome
outcome reader words files brought = outcome_of (writing_of reader files brought (reader.command words))
