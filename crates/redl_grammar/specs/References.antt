-- References to characters (XML 1.0, productions 66 to 68, and the five names of 4.6).
use Rattle.std.specs.Prelude.{ℕ, Bool, true, false, ◌==◌, ◌&&◌, ◌||◌, List, [], ◌∷◌, Option, Some, None, if◌then◌else◌, codes, not, map}
use Rattle.std.specs.Char.{digit_value, is_digit}
use Rattle.std.specs.Int.Digits.{number_from_digits}
use Rattle.redl_reading.specs.Lists.{behind, front, after, is_filled}
use Rattle.redl_reading.specs.Steps.{or_else}
use Rattle.redl_grammar.specs.Characters.{is_character}

abbrev pub valued : ℕ → Option (List ℕ) → Option (ℕ × List ℕ)
valued c None = None
valued c (Some rest) = Some (c, rest)

-- one of the five names with its `;`: its character, and what follows it
unfoldable pub named_at : List ℕ → Option (ℕ × List ℕ)
named_at bs =
    or_else (valued 38 (behind (codes "amp;") bs)) (or_else (valued 60 (behind (codes "lt;") bs)) (or_else (valued 62 (behind (codes "gt;") bs)) (or_else (valued 34 (behind (codes "quot;") bs)) (valued 39 (behind (codes "apos;") bs)))))

abbrev pub is_digit_in : ℕ → ℕ → Bool
is_digit_in base b = is_digit b base

-- the number that digits write
abbrev pub number_of : ℕ → List ℕ → ℕ
number_of base digits = number_from_digits base (map digit_value digits)

-- digits and a `;`: the allowed character with that number, and what follows it
abbrev pub numbered : ℕ → List ℕ → List ℕ → Option (ℕ × List ℕ)
numbered base digits rest =
    if is_filled digits && is_character (number_of base digits) then valued (number_of base digits) (behind (codes ";") rest) else None

unfoldable pub number_at : ℕ → List ℕ → Option (ℕ × List ℕ)
number_at base bs = numbered base (front (is_digit_in base) bs) (after (is_digit_in base) bs)

abbrev pub numbered_by : Option (List ℕ) → Option (List ℕ) → Option (ℕ × List ℕ)
numbered_by (Some hexadecimal) decimal = number_at 16 hexadecimal
numbered_by None (Some decimal) = number_at 10 decimal
numbered_by None None = None

-- a reference, given what follows its `&`: its character, and what follows its `;`
unfoldable pub reference_at : List ℕ → Option (ℕ × List ℕ)
reference_at bs = or_else (named_at bs) (numbered_by (behind (codes "#x") bs) (behind (codes "#") bs))

-- there is a value
abbrev pub is_there : {A : Type 0} → Option A → Bool
is_there None = false
is_there (Some x) = true

-- each `&` begins a reference
abbrev pub has_references : List ℕ → Bool
has_references [] = true
has_references (b ∷ bs) = (not (b == 38) || is_there (reference_at bs)) && has_references bs
