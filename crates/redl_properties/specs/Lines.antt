-- The changed properties of a change in one line of words: four of them, and how many more there are.
use Rattle.std.specs.Prelude.{ℕ, zero, suc, ◌-◌, ◌&&◌, ◌||◌, nat_lt, min, Bool, false, List, [], ◌∷◌, ◌++◌, length, slice_get, bytes_eq, codes, decimal, unwrap_or, Option, None, Some, if◌then◌else◌}
use Rattle.std.specs.List.{flat_map, list_all, list_any}
use Rattle.redl_properties.specs.Names.{is_of_language as is_language}
use Rattle.redl_properties.specs.Said.{between, property_at}
use Rattle.redl_properties.specs.Utf8.{text_or_nothing}
use Rattle.redl_properties.specs.Values.{same_value}
use Rattle.redl_properties.specs.declared.change.Changed.{Changed}
use Rattle.redl_properties.specs.declared.property.Property.{Property}

abbrev pub language_by : Option Property → Bool
language_by None = false
language_by (Some property) = is_language property

-- the property is of language
abbrev pub is_of_language : List ℕ → Bool
is_of_language property = language_by (property_at property)

abbrev pub are_of_language : List Changed → Bool
are_of_language changes = list_all (λ (change : Changed). is_of_language change.property) changes

-- ---- twins

abbrev pub is_other_font : List ℕ → Bool
is_other_font property = bytes_eq property (codes "rFonts@hAnsi") || bytes_eq property (codes "rFonts@cs") || bytes_eq property (codes "rFonts@eastAsia")

abbrev pub is_other_language : List ℕ → Bool
is_other_language property = bytes_eq property (codes "lang@eastAsia") || bytes_eq property (codes "lang@bidi")

-- the property that says the same in most documents
abbrev pub twin_of : List ℕ → Option (List ℕ)
twin_of property =
    if bytes_eq property (codes "bCs") then Some (codes "b")
    else if bytes_eq property (codes "iCs") then Some (codes "i")
    else if bytes_eq property (codes "szCs") then Some (codes "sz")
    else if is_other_font property then Some (codes "rFonts@ascii")
    else if is_other_language property then Some (codes "lang")
    else None

-- the other change is of this property, with the same values
unfoldable pub same_change : List ℕ → Changed → Changed → Bool
same_change first change other = bytes_eq other.property first && same_value other.from change.from && same_value other.to change.to

abbrev pub repeats : List Changed → Changed → Option (List ℕ) → Bool
repeats changes change None = false
repeats changes change (Some first) = list_any (λ (other : Changed). same_change first change other) changes

-- a change that says what that of the property says whose twin it is
abbrev pub is_repeated : List Changed → Changed → Bool
is_repeated changes change = repeats changes change (twin_of change.property)

-- ---- the line

abbrev pub told_of : List Changed → Changed → List (List ℕ)
told_of changes change = if is_repeated changes change then [] else change.said ∷ []

-- the words of each change but for twins
abbrev pub told : List Changed → List (List ℕ)
told changes = flat_map (told_of changes) changes

-- the first ones
abbrev pub first_upto : List (List ℕ) → ℕ → List ℕ
first_upto told zero = []
first_upto told (suc place) = first_upto told place ++ (between place (codes "; ") ++ unwrap_or (slice_get told place) [])

abbrev pub first_four : List (List ℕ) → List ℕ
first_four told = first_upto told (min (length told) 4)

abbrev pub and_more : ℕ → List ℕ
and_more count = if nat_lt 4 count then codes "; and " ++ (decimal (count - 4) ++ codes " more") else []

abbrev pub told_line : List (List ℕ) → List ℕ
told_line told = text_or_nothing (first_four told ++ and_more (length told))

abbrev pub line_of : List Changed → List ℕ
line_of [] = codes "no property differs"
line_of (change ∷ more) = if are_of_language (change ∷ more) then codes "language only" else told_line (told (change ∷ more))
