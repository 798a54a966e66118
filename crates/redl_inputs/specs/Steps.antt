-- Steps of a call, one after another up to the first failure, and the files that a call names.
use Rattle.std.specs.Prelude.{ℕ, List, length, nat_lt, Option, None, Some, Result, Ok, Err, if◌then◌else◌}
use Rattle.redl_io.specs.Shelf.{Files}
use Rattle.redl_io.specs.declared.shelf.ShelfError.{ShelfError}
use Rattle.redl_io.specs.declared.shelf.ShelfError.TheVariants as error
use Rattle.redl_lines.specs.Failures.{Failure, caused, unread, no_memory, over}
use Rattle.redl_lines.specs.declared.failure.Limit.{Limit}

-- a step, and the next one if it succeeded
infixl 10 ◌>>=◌
abbrev pub ◌>>=◌ : {X Y : Type 0} → Result X Failure → (X → Result Y Failure) → Result Y Failure
(Ok x) >>= next = next x
(Err failure) >>= next = Err failure

-- the text of a file that the shelf has
abbrev pub held : List ℕ → Option (List ℕ) → Result (List ℕ) Failure
held name None = Err (unread name)
held name (Some whole) = Ok whole

-- why a call ends where the shelf gave no bytes of the file of this name
abbrev pub fetch_failure : List ℕ → ShelfError → Failure
fetch_failure name error.Failed = unread name
fetch_failure name error.Missing = unread name
fetch_failure name error.NoMemory = no_memory

-- a text of at most `most` bytes
abbrev pub within : ℕ → Limit → List ℕ → Result (List ℕ) Failure
within most limit whole = if nat_lt most (length whole) then Err (caused (over limit)) else Ok whole

-- the text of the file of this name, of at most `most` bytes
abbrev pub file : Files → List ℕ → ℕ → Limit → Result (List ℕ) Failure
file files name most limit = held name (files name) >>= within most limit
