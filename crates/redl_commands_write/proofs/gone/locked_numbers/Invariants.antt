use Rattle.std.proofs.Common.{◌≡◌, take}
use Rattle.redl_commands.specs.Notes.{locked_numbers}
use Rattle.redl_commands_write.proofs.gone.locked_numbers.Given as goal

-- those of the first revisions
abbrev pub invariant-loop-revision : goal.invariant-loop-revision
invariant-loop-revision l = l.numbers.items ≡ locked_numbers l.locks (take l.revision-index l.revisions)
