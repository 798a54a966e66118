-- Reading a rank: a number up to 9.
use Rattle.std.specs.Prelude.{ℕ, List, Option, Some, None, nat_le, if◌then◌else◌}
use Rattle.redl_journal.specs.Reading.{number_in}
use Rattle.redl_reading.specs.Steps.{◌>>=◌}

unfoldable pub rank_in : List ℕ → Option ℕ
rank_in digits = do
  number ← number_in digits
  if nat_le number 9 then Some number else None
