-- Journals in another order or with repeats, where only one of two calls is known to be written (our own rule).
use Rattle.std.specs.Prelude.{◌≡◌, ◌≤◌, ◌+◌, ℕ, List, [], ◌∷◌, Option, None, Some, length}
use Rattle.redl_inputs.specs.Journals.{AreSame}
use Rattle.redl_inputs.specs.Readers.{Reader}
use Rattle.redl_io.specs.Limits.{journal_bytes}
use Rattle.redl_io.specs.Shelf.{Files}
use Rattle.redl_outcome.specs.Answers.{IsWritten}
use Rattle.redl_outcome.specs.AnyOrder.{with_journals}
use Rattle.redl_outcome.specs.Brought.{Brought}
use Rattle.redl_outcome.specs.Outcome.{outcome}
use Rattle.redl_words.specs.Commands.{Command}

-- how many bytes a file has; one that is missing has none
abbrev pub length_of : Option (List ℕ) → ℕ
length_of None = 0
length_of (Some whole) = length whole

-- how many bytes the files of these names have together, each as often as it is named
abbrev pub length_together : Files → List (List ℕ) → ℕ
length_together files [] = 0
length_together files (name ∷ names) = length_of (files name) + length_together files names

-- Of two calls of a command that differ in the order and the repeats of their journals, the first is written. Then the other one comes to the
-- same status, bytes and lines, where its journals are within the limit of journal bytes.
abbrev pub OrderIsFree : Reader → Files → Brought → Type 0
OrderIsFree reader files brought =
    (words others : List (List ℕ)) (command : Command) (names more : List (List ℕ)) → AreSame names more
    → reader.command words ≡ Some (with_journals names command) → reader.command others ≡ Some (with_journals more command)
    → IsWritten (outcome reader words files brought).status → length_together files more ≤ journal_bytes
    → outcome reader words files brought ≡ outcome reader others files brought
