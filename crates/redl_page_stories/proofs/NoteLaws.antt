-- Roman numerals, letter by letter.
use Rattle.std.proofs.Common.{◌≡◌, ◌∙◌, ◌++◌, ◌/◌, ◌%◌, List, ℕ, ap, replicate}
use Rattle.redl_html.specs.Escaping.{escaped}
use Rattle.redl_html.proofs.EscapingLaws.{escaped-append}
use Rattle.redl_numerals.specs.Numerals.{roman, roman_digit}

-- thousands, hundreds, tens and units, one after the other
pub roman-text : (n : ℕ) → escaped (roman 32 n)
    ≡ escaped (replicate (n / 1000) 109) ++ (escaped (roman_digit 99 100 109 (n / 100 % 10)) ++ (escaped (roman_digit 120 108 99 (n / 10 % 10)) ++ escaped (roman_digit 105 118 120 (n % 10))))
roman-text n =
    let thousands = replicate (n / 1000) 109 in
    let hundreds = roman_digit 99 100 109 (n / 100 % 10) in
    let tens = roman_digit 120 108 99 (n / 10 % 10) in
    let units = roman_digit 105 118 120 (n % 10) in
    escaped-append thousands (hundreds ++ (tens ++ units))
    ∙ ap (λ (l : List ℕ). escaped thousands ++ l) (escaped-append hundreds (tens ++ units) ∙ ap (λ (l : List ℕ). escaped hundreds ++ l) (escaped-append tens units))
