-- The characters of a text, and the classes of characters (XML 1.0, fifth edition, productions 2 to 4a).
use Rattle.std.specs.Prelude.{◌≡◌, ℕ, Bool, true, ◌==◌, ◌&&◌, ◌||◌, not, nat_le, List}
use Rattle.std.specs.List.{list_all}
use Rattle.std.specs.Str.{encode_utf8_all}

-- from one code to another, both included
abbrev pub between : ℕ → ℕ → ℕ → Bool
between low high c = nat_le low c && nat_le c high

-- Char, production 2
unfoldable pub is_character : ℕ → Bool
is_character c = c == 0x9 || c == 0xA || c == 0xD || between 0x20 0xD7FF c || between 0xE000 0xFFFD c || between 0x1_0000 0x10_FFFF c

-- a byte with which no forbidden character begins: no control character, and not the first byte of U+FFFE and U+FFFF
unfoldable pub is_plain_byte : ℕ → Bool
is_plain_byte b = nat_le 0x20 b && not (b == 0xEF) || b == 0x9 || b == 0xA || b == 0xD

-- a character of S, production 3
unfoldable pub is_space : ℕ → Bool
is_space c = c == 0x20 || c == 0x9 || c == 0xD || c == 0xA

-- NameStartChar, production 4
unfoldable pub is_name_start : ℕ → Bool
is_name_start c =
    c == 58 || between 65 90 c || c == 95 || between 97 122 c || between 0xC0 0xD6 c || between 0xD8 0xF6 c || between 0xF8 0x2FF c || between 0x370 0x37D c || between 0x37F 0x1FFF c || between 0x200C 0x200D c || between 0x2070 0x218F c || between 0x2C00 0x2FEF c || between 0x3001 0xD7FF c || between 0xF900 0xFDCF c || between 0xFDF0 0xFFFD c || between 0x1_0000 0xE_FFFF c

-- NameChar, production 4a
unfoldable pub is_name_character : ℕ → Bool
is_name_character c = is_name_start c || c == 45 || c == 46 || between 48 57 c || c == 0xB7 || between 0x300 0x36F c || between 0x203F 0x2040 c

-- the bytes are the UTF-8 of allowed characters
pub record IsText (bytes : List ℕ) : Type 0 where
  pub characters : List ℕ
  pub each : list_all is_character characters ≡ true
  pub whole : bytes ≡ encode_utf8_all characters
