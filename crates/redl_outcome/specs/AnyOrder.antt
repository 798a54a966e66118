-- Journals in any order and with repeats.
use Rattle.std.specs.Prelude.{◌≡◌, ℕ, List, Some}
use Rattle.redl_outcome.specs.Answers.{IsWritten}
use Rattle.redl_outcome.specs.Brought.{Brought}
use Rattle.redl_outcome.specs.Outcome.{outcome}
use Rattle.redl_inputs.specs.Journals.{AreSame}
use Rattle.redl_inputs.specs.Readers.{Reader}
use Rattle.redl_io.specs.Shelf.{Files}
use Rattle.redl_words.specs.Commands.{Command, settle, view_text, list, report, page, write, decide, resume, join, check, sample}

-- the command with these journals in place of its own, if it has them of one package
abbrev pub with_journals : List (List ℕ) → Command → Command
with_journals names (settle accept p) = settle accept p
with_journals names (view_text p view) = view_text p view
with_journals names (list p format locks journals wanted) = list p format locks names wanted
with_journals names (report p format by_kind locks journals) = report p format by_kind locks names
with_journals names (page p title rank pictures locks journals) = page p title rank pictures locks names
with_journals names (write p locks journals) = write p locks names
with_journals names (decide p reviewer journals locks choices rank) = decide p reviewer names locks choices rank
with_journals names (resume p q firsts journals) = resume p q firsts journals
with_journals names (join journals) = join names
with_journals names (check p) = check p
with_journals names (sample number) = sample number

-- two calls of a command that differ in the order and the repeats of their journals, and that both are written, come to the
-- same status, bytes and lines
abbrev pub OrderDoesNotCount : Reader → Files → Brought → Type 0
OrderDoesNotCount reader files brought =
    (words others : List (List ℕ)) (command : Command) (names more : List (List ℕ)) → AreSame names more
    → reader.command words ≡ Some (with_journals names command) → reader.command others ≡ Some (with_journals more command)
    → IsWritten (outcome reader words files brought).status → IsWritten (outcome reader others files brought).status
    → outcome reader words files brought ≡ outcome reader others files brought

-- the same of two calls for one journal of two sittings, which have journals of two packages
abbrev pub OrderOfSittings : Reader → Files → Brought → Type 0
OrderOfSittings reader files brought =
    (words others : List (List ℕ)) (p q : List ℕ) (firsts journals again more : List (List ℕ)) → AreSame firsts again → AreSame journals more
    → reader.command words ≡ Some (resume p q firsts journals) → reader.command others ≡ Some (resume p q again more)
    → IsWritten (outcome reader words files brought).status → IsWritten (outcome reader others files brought).status
    → outcome reader words files brought ≡ outcome reader others files brought
