-- Numbers as they are written (ECMA-376 Part 1, 17.18.59). What a form has no numeral for is decimal, with its sign.
use Rattle.std.specs.Prelude.{ℕ, ◌+◌, ◌-◌, ◌/◌, ◌%◌, ◌==◌, ◌&&◌, nat_lt, nat_le, List, [], ◌∷◌, ◌++◌, length, codes, decimal, replicate, if◌then◌else◌}
use Rattle.redl_numerals.specs.declared.number.Number.{Number}
use Rattle.redl_numerals.specs.declared.number.Number.TheVariants.{Plus, Minus}
use Rattle.redl_numerals.specs.declared.format.Format.{Format}
use Rattle.redl_numerals.specs.declared.format.Format.TheVariants.{Decimal, DecimalZero, Padded, UpperRoman, LowerRoman, UpperLetter, LowerLetter, Ordinal, Nothing, Bullet}

-- zeros before a number, up to this width
abbrev pub padded_text : ℕ → ℕ → List ℕ
padded_text width n = replicate (width - length (decimal n)) 48 ++ decimal n

-- ---- letters: one of them, repeated after each 26

abbrev pub letters : ℕ → ℕ → List ℕ
letters first n = replicate ((n - 1) / 26 + 1) (first + (n - 1) % 26)

abbrev pub letters_text : ℕ → ℕ → List ℕ
letters_text first n = if nat_le 1 n && nat_le n 780 then letters first n else decimal n

-- ---- Roman numerals

-- a digit by the signs for one, five and ten
abbrev pub roman_digit : ℕ → ℕ → ℕ → ℕ → List ℕ
roman_digit one five ten d =
    if d == 0 then []
    else if d == 1 then one ∷ []
    else if d == 2 then one ∷ one ∷ []
    else if d == 3 then one ∷ one ∷ one ∷ []
    else if d == 4 then one ∷ five ∷ []
    else if d == 5 then five ∷ []
    else if d == 6 then five ∷ one ∷ []
    else if d == 7 then five ∷ one ∷ one ∷ []
    else if d == 8 then five ∷ one ∷ one ∷ one ∷ []
    else one ∷ ten ∷ []

-- A number below 4,000, in capitals (`small` is 0) or in small letters (32). The letters are I, V, X, L, C, D and M.
abbrev pub roman : ℕ → ℕ → List ℕ
roman small n =
    replicate (n / 1000) (77 + small)
    ++ (roman_digit (67 + small) (68 + small) (77 + small) (n / 100 % 10)
    ++ (roman_digit (88 + small) (76 + small) (67 + small) (n / 10 % 10)
    ++ roman_digit (73 + small) (86 + small) (88 + small) (n % 10)))

abbrev pub roman_text : ℕ → ℕ → List ℕ
roman_text small n = if nat_le 1 n && nat_lt n 4000 then roman small n else decimal n

-- ---- ordinals, in English

abbrev pub ending_by : ℕ → List ℕ
ending_by last = if last == 1 then codes "st" else if last == 2 then codes "nd" else if last == 3 then codes "rd" else codes "th"

abbrev pub ordinal_ending : ℕ → List ℕ
ordinal_ending n = if n % 100 / 10 == 1 then codes "th" else ending_by (n % 10)

abbrev pub ordinal_text : ℕ → List ℕ
ordinal_text n = decimal n ++ ordinal_ending n

-- ---- all of them

-- a number that is not below zero
abbrev pub plus_text : Format → ℕ → List ℕ
plus_text Decimal n = decimal n
plus_text DecimalZero n = padded_text 2 n
plus_text (Padded width) n = padded_text width n
plus_text UpperRoman n = roman_text 0 n
plus_text LowerRoman n = roman_text 32 n
plus_text UpperLetter n = letters_text 65 n
plus_text LowerLetter n = letters_text 97 n
plus_text Ordinal n = ordinal_text n
plus_text Nothing n = []
plus_text Bullet n = decimal n

-- a number below zero by this much
abbrev pub minus_text : Format → ℕ → List ℕ
minus_text Nothing n = []
minus_text _ n = 45 ∷ decimal n

abbrev pub numeral : Format → Number → List ℕ
numeral format (Plus n) = plus_text format n
numeral format (Minus n) = minus_text format n
