-- Whole numbers of attributes (ECMA-376 Part 1, 17.18.10; our own rule for how long they may be).
use Rattle.std.specs.Prelude.{ℕ, ◌+◌, ◌-◌, ◌*◌, ◌==◌, ◌&&◌, Bool, nat_lt, nat_le, List, [], ◌∷◌, length, Option, Some, None, if◌then◌else◌}
use Rattle.std.specs.List.{list_all}
use Rattle.std.specs.Option.{option_map}
use Rattle.std.specs.Char.{is_ascii_digit}
use Rattle.redl_numerals.specs.declared.number.Number.{Number}
use Rattle.redl_numerals.specs.declared.number.Number.TheVariants.{Plus, Minus}

-- the number that digits write, after one that was written before them
abbrev pub digits_value : ℕ → List ℕ → ℕ
digits_value before [] = before
digits_value before (d ∷ ds) = digits_value (before * 10 + (d - 48)) ds

-- one to nine digits
abbrev pub is_plain_number : List ℕ → Bool
is_plain_number digits = nat_le 1 (length digits) && (nat_le (length digits) 9 && list_all is_ascii_digit digits)

abbrev pub plain_number : List ℕ → Option ℕ
plain_number digits = if is_plain_number digits then Some (digits_value 0 digits) else None

abbrev pub minus : ℕ → Number
minus below = if below == 0 then Plus 0 else Minus below

-- the same with a sign or without
abbrev pub number_of : List ℕ → Option Number
number_of [] = None
number_of (b ∷ bs) =
    if b == 45 then option_map minus (plain_number bs)
    else if b == 43 then option_map Plus (plain_number bs)
    else option_map Plus (plain_number (b ∷ bs))

-- one more
abbrev pub next : Number → Number
next (Plus above) = Plus (above + 1)
next (Minus below) = if nat_lt below 2 then Plus 0 else Minus (below - 1)
