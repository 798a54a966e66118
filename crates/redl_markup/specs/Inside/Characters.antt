-- Bytes of UTF-8 with which no forbidden character begins.
use Rattle.std.specs.Prelude.{ℕ, Bool, true, nat_lt, nat_le, ◌==◌, ◌&&◌, ◌||◌, not, List, [], ◌∷◌}
use Rattle.redl_reading.specs.Lists.{begins}
use Rattle.redl_grammar.specs.Characters.{is_plain_byte}

-- the other two bytes of U+FFFE and U+FFFF
abbrev pub ends_noncharacter : List ℕ → Bool
ends_noncharacter bs = begins (0xBF ∷ 0xBE ∷ []) bs || begins (0xBF ∷ 0xBF ∷ []) bs

-- each byte is plain, or is the first one of those two and begins another character
abbrev pub are_allowed : List ℕ → Bool
are_allowed [] = true
are_allowed (b ∷ bs) = (is_plain_byte b || (b == 0xEF && not (ends_noncharacter bs))) && are_allowed bs

-- a character of ASCII from the space on
abbrev pub is_printed : ℕ → Bool
is_printed b = not (nat_lt b 0x20 || nat_le 0x80 b)

abbrev pub is_low : ℕ → Bool
is_low b = not (nat_le 0x80 b)

-- an allowed character of ASCII
abbrev pub is_plain_ascii : ℕ → Bool
is_plain_ascii b = is_plain_byte b && nat_lt b 0x80
