-- The forms of numbers (ECMA-376 Part 1, 17.18.59), of which all others are written as decimal (our own rule).
use Rattle.std.specs.Prelude.{ℕ, ◌==◌, Bool, true, false, List, length, codes, bytes_eq, if◌then◌else◌}
use Rattle.redl_reading.specs.Lists.{front, after}
use Rattle.redl_numerals.specs.declared.format.Format.{Format}
use Rattle.redl_numerals.specs.declared.format.Format.TheVariants.{Decimal, DecimalZero, Padded, UpperRoman, LowerRoman, UpperLetter, LowerLetter, Ordinal, Nothing, Bullet}

abbrev pub is_zero : ℕ → Bool
is_zero b = b == 48

abbrev pub is_no_comma : ℕ → Bool
is_no_comma b = if b == 44 then false else true

-- an example of a number, up to a comma: zeros and a 1
abbrev pub padded : List ℕ → Format
padded example = if bytes_eq (after is_zero example) (codes "1") then Padded (length example) else Decimal

-- a form of one's own, by examples of its first numbers
abbrev pub custom_format : List ℕ → Format
custom_format examples = padded (front is_no_comma examples)

-- the form with this name, where the examples are of a form of one's own
abbrev pub format_of : List ℕ → List ℕ → Format
format_of name examples =
    if bytes_eq name (codes "decimalZero") then DecimalZero
    else if bytes_eq name (codes "upperRoman") then UpperRoman
    else if bytes_eq name (codes "lowerRoman") then LowerRoman
    else if bytes_eq name (codes "upperLetter") then UpperLetter
    else if bytes_eq name (codes "lowerLetter") then LowerLetter
    else if bytes_eq name (codes "ordinal") then Ordinal
    else if bytes_eq name (codes "none") then Nothing
    else if bytes_eq name (codes "bullet") then Bullet
    else if bytes_eq name (codes "custom") then custom_format examples
    else Decimal

-- The form in a level where all numbers are legal (17.9.4): decimal, but for the two that decimal doesn't take the place of.
abbrev pub legal : Format → Format
legal DecimalZero = DecimalZero
legal Nothing = Nothing
legal _ = Decimal

abbrev pub format_in : Bool → Format → Format
format_in is_legal format = if is_legal then legal format else format
