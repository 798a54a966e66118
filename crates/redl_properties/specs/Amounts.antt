-- Numbers in texts, and amounts in words.
use Rattle.std.specs.Prelude.{ℕ, zero, suc, ◌+◌, ◌-◌, ◌*◌, ◌/◌, ◌%◌, ◌==◌, ◌&&◌, ◌||◌, nat_le, nat_lt, Bool, true, false, List, [], ◌∷◌, ◌++◌, length, get_or, decimal, codes, Option, None, Some, if◌then◌else◌}
use Rattle.redl_properties.specs.declared.amount.Number.{Number}

-- the number with one digit more
abbrev pub read : Option ℕ → ℕ → Option ℕ
read None digit = None
read (Some number) digit =
    if nat_le 48 digit && nat_le digit 57 && nat_le number 99999999 then Some (10 * number + (digit - 48)) else None

-- the number of the first digits
abbrev pub read_upto : List ℕ → ℕ → Option ℕ
read_upto digits zero = Some 0
read_upto digits (suc place) = read (read_upto digits place) (get_or digits place 0)

-- the number that one to nine digits are
abbrev pub natural : List ℕ → Option ℕ
natural digits = if length digits == 0 || nat_lt 9 (length digits) then None else read_upto digits (length digits)

abbrev pub with_sign : Bool → Option ℕ → Option Number
with_sign negative None = None
with_sign negative (Some size) = Some (record { negative = negative; size = size })

-- the number that a text is: digits, with a sign or without
abbrev pub number_in : List ℕ → Option Number
number_in [] = None
number_in (first ∷ rest) =
    if first == 45 then with_sign true (natural rest)
    else if first == 43 then with_sign false (natural rest)
    else with_sign false (natural (first ∷ rest))

-- the hundredths of a unit that so many parts are, where a unit has so many
abbrev pub hundredths : ℕ → ℕ → ℕ
hundredths parts number = (number * 100 + parts / 2) / parts

-- at most two figures behind the point
abbrev pub fraction : ℕ → List ℕ
fraction hundredths =
    if hundredths == 0 then []
    else if hundredths % 10 == 0 then 46 ∷ (48 + hundredths / 10) ∷ []
    else 46 ∷ (48 + hundredths / 10) ∷ (48 + hundredths % 10) ∷ []

-- so many parts in units
abbrev pub amount : ℕ → ℕ → List ℕ
amount parts number = decimal (hundredths parts number / 100) ++ fraction (hundredths parts number % 100)

abbrev pub sign : Bool → List ℕ
sign true = codes "-"
sign false = []

abbrev pub measured_by : ℕ → List ℕ → List ℕ → Option Number → List ℕ
measured_by parts unit text None = text
measured_by parts unit text (Some number) = sign number.negative ++ (amount parts number.size ++ unit)

-- a text that is a number of parts in units, with the name of the unit, and any other text as it is
abbrev pub measured : ℕ → List ℕ → List ℕ → List ℕ
measured parts unit text = measured_by parts unit text (number_in text)
