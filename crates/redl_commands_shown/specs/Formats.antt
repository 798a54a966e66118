-- The formats of listings and of reports, as the outcome of a call sees them, and what a call leaves of their lists.
use Rattle.std.specs.Prelude.{◌≡◌, ◌⊎◌, ℕ, Bool, true, false, List, [], All, map, position, Option, None, Some, Result, Ok, Err}
use Rattle.std.specs.Str.{bytes_eq}
use Rattle.redl_lines.specs.Failures.{Failure, caused, no_format}
use Rattle.redl_lines.specs.declared.status.Status.{Status}
use Rattle.redl_lines.specs.declared.status.Status.TheVariants as status
use Rattle.redl_formats.specs.Formats.{first_named, without_named}

-- a format of rows or other items: its name, and the text that it gives for all of them
pub record Format (I : Type 0) : Type 0 where
  pub name : List ℕ
  pub text : List I → List ℕ

-- formats by the name of each, and by the text that it gives for any items, closed or not
abbrev pub formats_by : {I F : Type 0} → (F → List ℕ) → (F → List I → Bool → List ℕ) → List F → List (Format I)
formats_by name_of text_of formats = map (λ format. record { name = name_of format; text = λ items. text_of format items true }) formats

-- no format is closed or has an item
abbrev pub AreFresh : {I F : Type 0} → (F → Bool) → (F → List I) → List F → Type 0
AreFresh is_closed items_of formats = All (λ format. (is_closed format ≡ false) × (items_of format ≡ [])) formats

-- ---- the format that a command asks for

-- the format that was found, or the failure that there is none with this name
abbrev pub found_format : {I : Type 0} → List ℕ → Option (Format I) → Result (Format I) Failure
found_format name None = Err (caused (no_format name))
found_format name (Some format) = Ok format

-- the first format that has the name
abbrev pub format_named : {I : Type 0} → List (Format I) → List ℕ → Result (Format I) Failure
format_named formats name = found_format name (first_named (λ format. format.name) name formats)

-- its place, if there is one
abbrev pub place_named : {F : Type 0} → (F → List ℕ) → List ℕ → List F → Option ℕ
place_named name_of name formats = position (λ format. bytes_eq (name_of format) name) formats

-- the place of the format of this name, which is there, if one is asked for
abbrev pub IsPlaceAsked : {F : Type 0} → (F → List ℕ) → Option (List ℕ) → List F → Option ℕ → Type 0
IsPlaceAsked name_of None formats place = place ≡ None
IsPlaceAsked name_of (Some name) formats place = (found : ℕ) × (place ≡ Some found) × (place_named name_of name formats ≡ Some found)

-- nothing more than whether something was made
abbrev pub whether : {X : Type 0} → Result X Failure → Result (Unit {0}) Failure
whether (Ok x) = Ok tt
whether (Err failure) = Err failure

-- whether there is the format of this name, if one is asked for
abbrev pub has_format : {I : Type 0} → List (Format I) → Option (List ℕ) → Result (Unit {0}) Failure
has_format formats None = Ok tt
has_format formats (Some name) = whether (format_named formats name)

-- ---- what is left of the formats

-- the formats without the one of this name, if one is asked for
abbrev pub without_asked : {F : Type 0} → (F → List ℕ) → Option (List ℕ) → List F → List F
without_asked name_of None formats = formats
without_asked name_of (Some name) formats = without_named name_of name formats

-- The format that was asked for is gone where all was made, also where the output failed. Where memory ran out it may be
-- gone. With any other status the formats are as they were.
abbrev pub LeavesFormats : {F : Type 0} → Status → List F → List F → List F → Type 0
LeavesFormats status.Done without old new = new ≡ without
LeavesFormats status.Refused without old new = new ≡ without
LeavesFormats status.WriteFault without old new = new ≡ without
LeavesFormats status.NoMemory without old new = (new ≡ old) ⊎ (new ≡ without)
LeavesFormats _ without old new = new ≡ old
