-- What a call with words that ask for files comes to (our own rule).
use Rattle.std.specs.Prelude.{◌≡◌, ◌≢◌, ◌⊎◌, ℕ, List, Option}
use Rattle.redl_outcome.specs.Answers.{AreLines, AreMisused, Asks, IsAnswer, MayFault, OfOutcome, TellsSome, Writes as WritesBytes}
use Rattle.redl_outcome.specs.Brought.{Brought}
use Rattle.redl_outcome.specs.Files.{files_of}
use Rattle.redl_outcome.specs.Left.{Leaves}
use Rattle.redl_outcome.specs.Plans.{plan}
use Rattle.redl_outcome.specs.Sittings.{Resumes}
use Rattle.redl_io.specs.Faults.{Rose}
use Rattle.redl_io.specs.Shelf.{Files}
use Rattle.redl_io.specs.declared.shelf.Request.{Request}
use Rattle.redl_lines.specs.Ends.{Tells}
use Rattle.redl_lines.specs.declared.status.Status.{Status}
use Rattle.redl_lines.specs.declared.status.Status.TheVariants.{Done, NoMemory, ReadFault, Refused, Usage, WriteFault}
use Rattle.redl_words.specs.Commands.{Command, HasNoCommand, IsCommand}

-- A call with these words ended with this status. The shelf, the output and the lines are given by what they tell and count, before and after.
pub record Answers {F O E : Type 0}
    (held : F → Option Files) (misses : F → ℕ) (noted : F → Option (List Request)) (shelf shelf_new : F)
    (told : O → Option (List ℕ)) (faults : O → ℕ) (out out_new : O)
    (lines_told : E → Option (List ℕ)) (line_faults : E → ℕ) (err err_new : E)
    (words : List (List ℕ)) (brought : Brought) (ended : Status) : Type 0 where
  -- where the shelf tells, or the words ask for no file, the status is the outcome's, but for what the outside forces
  pub status : OfOutcome (held shelf) words brought (λ outcome. IsAnswer ended outcome (Rose (misses shelf) (misses shelf_new)) (Rose (faults out) (faults out_new)))
  -- over every shelf
  pub usage : AreMisused words brought → (ended ≡ Usage) ⊎ (ended ≡ NoMemory)
  pub only_usage : ended ≡ Usage → AreMisused words brought
  pub read : ended ≡ ReadFault → MayFault words brought (held shelf) (Rose (misses shelf) (misses shelf_new))
  pub write : ended ≡ WriteFault → Rose (faults out) (faults out_new)
  -- A command asks for the first ones of its files, in their order, each once and up to one byte over its limit: for all of them where its output was put, and for
  -- none after a journal that it refuses. Other words ask for none.
  pub asked : (command : Command) → IsCommand words command → Asks (noted shelf) (noted shelf_new) (files_of brought (plan command)) ended (Tells lines_told line_faults err err_new)
  pub unasked : HasNoCommand words → noted shelf_new ≡ noted shelf
  -- no fault is passed over, and nothing is taken from the shelf
  pub shelf_stands : ended ≢ ReadFault → misses shelf_new ≡ misses shelf
  pub out_stands : ended ≢ WriteFault → faults out_new ≡ faults out
  pub same_files : held shelf_new ≡ held shelf
  -- what went out
  pub bytes : OfOutcome (held shelf) words brought (λ outcome. WritesBytes told out out_new ended outcome.bytes)
  pub left : Leaves ended (held shelf) words brought
  pub resumes : Resumes ended (held shelf) words brought
  pub untouched : ended ≢ Done → ended ≢ Refused → ended ≢ WriteFault → told out_new ≡ told out
  pub lines : OfOutcome (held shelf) words brought (λ outcome. TellsSome lines_told line_faults err err_new
      (AreLines ended outcome words brought (Rose (misses shelf) (misses shelf_new))))
