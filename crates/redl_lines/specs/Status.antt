-- The numbers of the statuses.
use Rattle.std.specs.Prelude.{ℕ}
use Rattle.redl_lines.specs.declared.status.Status.{Status}
use Rattle.redl_lines.specs.declared.status.Status.TheVariants as status

-- the exit status
abbrev pub code_of : Status → ℕ
code_of status.Done = 0
code_of status.Refused = 1
code_of status.Usage = 2
code_of status.Package = 3
code_of status.Journal = 4
code_of status.ReadFault = 5
code_of status.WriteFault = 6
code_of status.Limit = 7
code_of status.NoMemory = 8
code_of status.Sequence = 9
code_of status.NotWritten = 11
code_of status.Differ = 12
