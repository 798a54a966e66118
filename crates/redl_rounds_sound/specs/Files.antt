-- What one call wrote as a journal of a later call.
use Rattle.std.specs.Prelude.{◌≡◌, ◌≤◌, ℕ, List, Some, length}
use Rattle.redl_commands.specs.Writing.{Outcome}
use Rattle.redl_io.specs.Limits.{journal_bytes}
use Rattle.redl_io.specs.Shelf.{Files}
use Rattle.redl_outcome.specs.Answers.{IsWritten}

-- The file of this name is what a call wrote, and a call takes a journal that is so long. A union of journals can be longer than all of
-- them together: in the second version each line is two bytes longer.
pub record IsJournalFile (files : Files) (name : List ℕ) (call : Outcome) : Type 0 where
  pub done : IsWritten call.status
  pub held : files name ≡ Some call.bytes
  pub short : length call.bytes ≤ journal_bytes
