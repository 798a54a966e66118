-- Reading the journals of two sittings, from the left.
use Rattle.std.specs.Borrow.{Bor}
use Rattle.std.specs.Prelude.{◌≡◌, ◌&&◌, ℕ, List, [], ◌∷◌, ◌++◌, Option, Some, None, Result, Ok, Err, codes, if◌then◌else◌}
use Rattle.std.specs.Str.{bytes_eq}
use Rattle.redl_words.specs.declared.error.WordsError.{WordsError}
use Rattle.redl_words.specs.declared.sittings.Sittings as code
use Rattle.redl_words.specs.Items.{is_name}
use Rattle.redl_words.specs.Reading.Answers.{Fails}

-- the names of the journals of the first package, and of the second one
pub record Sittings : Type 0 where
  pub firsts : List (List ℕ)
  pub seconds : List (List ℕ)

-- the code's names as plain data
abbrev pub sittings_view : code.Sittings → Sittings
sittings_view sittings = record { firsts = sittings.firsts.items; seconds = sittings.seconds.items }

abbrev pub no_sittings : Sittings
no_sittings = record { firsts = []; seconds = [] }

-- with one journal of the first package more
abbrev pub with_first : List ℕ → Sittings → Sittings
with_first name sittings = record sittings { firsts = sittings.firsts ++ name ∷ [] }

-- with one of the second package more
abbrev pub with_second : List ℕ → Sittings → Sittings
with_second name sittings = record sittings { seconds = sittings.seconds ++ name ∷ [] }

-- the journals that these words name, after others
unfoldable pub sittings_in : Sittings → List (List ℕ) → Option Sittings
sittings_in so_far [] = Some so_far
sittings_in so_far (word ∷ []) = if is_name word then Some (with_second word so_far) else None
sittings_in so_far (word ∷ name ∷ later) =
    if is_name word then sittings_in (with_second word so_far) (name ∷ later)
    else if bytes_eq word (codes "--journal") && is_name name then sittings_in (with_first name so_far) later
    else None

-- after the first journal, what is read of the words that are left is what is read of all of them
abbrev pub GoesOn : Sittings → List (List ℕ) → Sittings → Result (Bor (List (List ℕ))) WordsError → Type 0
GoesOn before words after (Ok rest) = sittings_in before words ≡ sittings_in after rest.now
GoesOn before words after (Err error) = Fails error (sittings_in before words)
