-- Two sittings of which a call makes one journal.
use Rattle.std.specs.Prelude.{◌≡◌, ◌≢◌, ◌↔◌, ℕ, List, Option, Some, Ok}
use Rattle.redl_outcome.specs.Answers.{IsWritten}
use Rattle.redl_outcome.specs.Brought.{Brought}
use Rattle.redl_commands.specs.Join.{book_text}
use Rattle.redl_commands_shown.specs.Resume.{book_of, first_sitting, second_sitting, text_under}
use Rattle.redl_commands.specs.Write.{left_text}
use Rattle.redl_outcome.specs.Files.{asked_by}
use Rattle.redl_outcome.specs.Outcome.{outcome}
use Rattle.redl_inputs.specs.Admission.{Admission}
use Rattle.redl_inputs.specs.Packages.{package_file}
use Rattle.redl_inputs.specs.Readers.{Reader, IsReader}
use Rattle.redl_inputs.specs.Reading.{MayHold}
use Rattle.redl_io.specs.Shelf.{Files}
use Rattle.redl_lines.specs.declared.status.Status.{Status}
use Rattle.redl_lines.specs.declared.status.Status.TheVariants as status
use Rattle.redl_words.specs.Commands.{IsCommand, resume}

-- the two sittings of a call: over the package of this name, and over the second one, which is what the first sitting left
pub record AreSittings (reader : Reader) (files : Files) (p q : List ℕ) (firsts journals : List (List ℕ)) : Type 0 where
  pub whole : List ℕ
  pub one : Admission × ℕ
  pub two : Admission × ℕ
  pub file : package_file files p ≡ Ok whole
  pub first : first_sitting reader files firsts whole ≡ Ok one
  pub second : second_sitting reader files q journals one ≡ Ok two

-- the bytes are the journal of the joined book, and under its verdicts the first package comes to the text of the second one under
-- the verdicts of its own
pub record Agree (reader : Reader) (files : Files) (p q : List ℕ) (firsts journals : List (List ℕ)) (bytes : List ℕ) : Type 0 where
  pub sittings : AreSittings reader files p q firsts journals
  pub journal : bytes ≡ book_text sittings.one.0.document (book_of sittings.one.0.state sittings.two.0.state)
  pub texts : text_under sittings.one.0.state (book_of sittings.one.0.state sittings.two.0.state) ≡ left_text sittings.two.0.state

-- the sittings come to different texts
pub record Differ (reader : Reader) (files : Files) (p q : List ℕ) (firsts journals : List (List ℕ)) : Type 0 where
  pub sittings : AreSittings reader files p q firsts journals
  pub texts : text_under sittings.one.0.state (book_of sittings.one.0.state sittings.two.0.state) ≢ left_text sittings.two.0.state

-- a call for one journal of two sittings has the status 12 exactly where the sittings come to different texts
abbrev pub DifferExactly : Reader → List (List ℕ) → Files → Brought → Type 0
DifferExactly reader words files brought =
    (p q : List ℕ) (firsts journals : List (List ℕ)) → reader.command words ≡ Some (resume p q firsts journals)
    → ((outcome reader words files brought).status ≡ status.Differ) ↔ Differ reader files p q firsts journals

-- one journal of two sittings, where it is written, is that of the joined book, and both sittings come to the same text
abbrev pub SittingsAgree : Reader → List (List ℕ) → Files → Brought → Type 0
SittingsAgree reader words files brought =
    (p q : List ℕ) (firsts journals : List (List ℕ)) → reader.command words ≡ Some (resume p q firsts journals)
    → IsWritten (outcome reader words files brought).status → Agree reader files p q firsts journals (outcome reader words files brought).bytes

-- the same of a call that ended with this status, over a shelf that tells this
abbrev pub Resumes : Status → Option Files → List (List ℕ) → Brought → Type 0
Resumes ended told words brought =
    (p q : List ℕ) (firsts journals : List (List ℕ)) → IsCommand words (resume p q firsts journals)
    → (files : Files) (reader : Reader) → IsReader reader → MayHold told (asked_by brought (reader.command words)) files
    → (IsWritten ended → Agree reader files p q firsts journals (outcome reader words files brought).bytes)
    × (ended ≡ status.Differ → Differ reader files p q firsts journals)
    × (Differ reader files p q firsts journals → (outcome reader words files brought).status ≡ status.Differ)
