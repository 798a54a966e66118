-- Worked rows: numbers that are read, and numerals, by ECMA-376 Part 1, 17.18.59.
use Rattle.std.proofs.Common.{◌≡◌, refl, [], codes, Some, None}
use Rattle.redl_numerals.specs.Numbers.{number_of, next}
use Rattle.redl_numerals.specs.Formats.{format_of, format_in}
use Rattle.redl_numerals.specs.Numerals.{numeral}
use Rattle.redl_numerals.specs.declared.number.Number.TheVariants.{Plus, Minus}
use Rattle.redl_numerals.specs.declared.format.Format.TheVariants.{Decimal, DecimalZero, Padded, UpperRoman, LowerRoman, UpperLetter, LowerLetter, Ordinal, Nothing}
use Rattle.std.specs.Fmt.{digits}
use Rattle.std.specs.Prelude.{true}

-- ---- numbers

nine_digits : number_of (codes "999999999") ≡ Some (Plus 999999999)
nine_digits = refl

ten_digits : number_of (codes "2147483648") ≡ None
ten_digits = refl

with_signs : number_of (codes "+012") ≡ Some (Plus 12)
with_signs = refl

below_zero : number_of (codes "-3") ≡ Some (Minus 3)
below_zero = refl

no_minus_zero : number_of (codes "-0") ≡ Some (Plus 0)
no_minus_zero = refl

no_number : number_of (codes "1.5") ≡ None
no_number = refl

no_digits : number_of (codes "-") ≡ None
no_digits = refl

nothing : number_of [] ≡ None
nothing = refl

up_to_zero : next (Minus 1) ≡ Plus 0
up_to_zero = refl

up : next (Plus 9) ≡ Plus 10
up = refl

-- ---- forms

known : format_of (codes "lowerRoman") [] ≡ LowerRoman
known = refl

unknown : format_of (codes "chineseCounting") [] ≡ Decimal
unknown = refl

of_ones_own : format_of (codes "custom") (codes "001, 002, 003, ...") ≡ Padded 3
of_ones_own = refl

alone : format_of (codes "custom") (codes "0001") ≡ Padded 4
alone = refl

of_another_number : format_of (codes "custom") (codes "002, 003") ≡ Decimal
of_another_number = refl

legal_roman : format_in true UpperRoman ≡ Decimal
legal_roman = refl

legal_zero : format_in true DecimalZero ≡ DecimalZero
legal_zero = refl

-- ---- numerals

zero_before : numeral DecimalZero (Plus 7) ≡ codes "07"
unfolding digits
zero_before = refl

zeros_before : numeral (Padded 4) (Plus 12) ≡ codes "0012"
unfolding digits
zeros_before = refl

wide : numeral (Padded 2) (Plus 1234) ≡ codes "1234"
unfolding digits
wide = refl

year : numeral UpperRoman (Plus 1994) ≡ codes "MCMXCIV"
year = refl

small : numeral LowerRoman (Plus 48) ≡ codes "xlviii"
small = refl

greatest : numeral LowerRoman (Plus 3999) ≡ codes "mmmcmxcix"
greatest = refl

no_roman : numeral UpperRoman (Plus 4000) ≡ codes "4000"
unfolding digits
no_roman = refl

no_roman_zero : numeral UpperRoman (Plus 0) ≡ codes "0"
unfolding digits
no_roman_zero = refl

first_letter : numeral UpperLetter (Plus 1) ≡ codes "A"
first_letter = refl

last_letter : numeral LowerLetter (Plus 26) ≡ codes "z"
last_letter = refl

twice : numeral LowerLetter (Plus 28) ≡ codes "bb"
twice = refl

no_letter : numeral LowerLetter (Plus 781) ≡ codes "781"
unfolding digits
no_letter = refl

eleventh : numeral Ordinal (Plus 11) ≡ codes "11th"
unfolding digits
eleventh = refl

twenty_second : numeral Ordinal (Plus 22) ≡ codes "22nd"
unfolding digits
twenty_second = refl

hundred_thirteenth : numeral Ordinal (Plus 113) ≡ codes "113th"
unfolding digits
hundred_thirteenth = refl

with_its_sign : numeral UpperRoman (Minus 4) ≡ codes "-4"
unfolding digits
with_its_sign = refl

no_text : numeral Nothing (Minus 4) ≡ []
no_text = refl
