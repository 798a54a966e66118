-- Worked rows: masked texts, by computing.
use Rattle.std.proofs.Common.{◌≡◌, ◌∷◌, [], List, ℕ, encode_utf8, refl}
use Rattle.std.specs.List.{flat_map}
use Rattle.redl_terminal.specs.declared.extent.Extent.TheVariants.{Field, Lines}
use Rattle.redl_terminal.specs.Masks.{hidden_length, masked}
use lib.Utf8.{encode}

-- the UTF-8 of characters
abbrev utf8 : List ℕ → List ℕ
utf8 characters = flat_map encode_utf8 characters

-- tabs and ends of lines are hidden in a field alone; the escape character, a carriage return and U+007F in both
ascii : (masked Field (97 ∷ 9 ∷ 10 ∷ 13 ∷ 27 ∷ 31 ∷ 32 ∷ 126 ∷ 127 ∷ []) ≡ 97 ∷ 63 ∷ 63 ∷ 63 ∷ 63 ∷ 63 ∷ 32 ∷ 126 ∷ 63 ∷ [])
    × (masked Lines (97 ∷ 9 ∷ 10 ∷ 13 ∷ 27 ∷ 31 ∷ 32 ∷ 126 ∷ 127 ∷ []) ≡ 97 ∷ 9 ∷ 10 ∷ 63 ∷ 63 ∷ 63 ∷ 32 ∷ 126 ∷ 63 ∷ [])
unfolding hidden_length
ascii = (refl, refl)

-- the first and the last of each stretch of hidden characters, and those beside them
edges : (masked Field (utf8 (0x80 ∷ 0x9b ∷ 0x9f ∷ 0xa0 ∷ [])) ≡ utf8 (63 ∷ 63 ∷ 63 ∷ 0xa0 ∷ []))
    × (masked Field (utf8 (0x61b ∷ 0x61c ∷ 0x61d ∷ [])) ≡ utf8 (0x61b ∷ 63 ∷ 0x61d ∷ []))
    × (masked Field (utf8 (0x200a ∷ 0x200b ∷ 0x200f ∷ 0x2010 ∷ [])) ≡ utf8 (0x200a ∷ 63 ∷ 63 ∷ 0x2010 ∷ []))
    × (masked Lines (utf8 (0x2027 ∷ 0x2028 ∷ 0x202e ∷ 0x202f ∷ [])) ≡ utf8 (0x2027 ∷ 63 ∷ 63 ∷ 0x202f ∷ []))
    × (masked Lines (utf8 (0x205f ∷ 0x2060 ∷ 0x206f ∷ 0x2070 ∷ [])) ≡ utf8 (0x205f ∷ 63 ∷ 63 ∷ 0x2070 ∷ []))
    × (masked Lines (utf8 (0xfefe ∷ 0xfeff ∷ 0xff00 ∷ [])) ≡ utf8 (0xfefe ∷ 63 ∷ 0xff00 ∷ []))
unfolding hidden_length encode
edges = (refl, refl, refl, refl, refl, refl)

-- bytes of a hidden character that is cut off stay
cut : (masked Field (194 ∷ []) ≡ 194 ∷ []) × (masked Field (226 ∷ 128 ∷ []) ≡ 226 ∷ 128 ∷ [])
unfolding hidden_length
cut = (refl, refl)
