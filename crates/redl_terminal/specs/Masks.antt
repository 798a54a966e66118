-- What a terminal is given of a text (our own rule): a question mark in place of each character that a terminal may take as a command, that
-- changes the direction of what is beside it, that ends a line, or that has no width. All other bytes are as they are. Texts are UTF-8.
use Rattle.std.specs.Prelude.{ℕ, zero, suc, pred, ◌==◌, ◌||◌, ◌&&◌, nat_le, nat_lt, not, Bool, false, List, [], ◌∷◌, if◌then◌else◌}
use Rattle.redl_terminal.specs.declared.extent.Extent.{Extent}
use Rattle.redl_terminal.specs.declared.extent.Extent.TheVariants.{Field, Lines}

-- a control character of ASCII; in a text of several lines the tabs and the ends of lines are none
abbrev pub is_control : Extent → ℕ → Bool
is_control Field b = nat_lt b 32 || b == 127
is_control Lines b = (nat_lt b 32 && not (b == 9 || b == 10)) || b == 127

abbrev pub is_within : ℕ → ℕ → ℕ → Bool
is_within first last b = nat_le first b && nat_le b last

-- U+0080 to U+009F, the other control characters, and U+061C, a mark of direction (two bytes each, RFC 3629)
abbrev pub is_hidden_pair : ℕ → ℕ → Bool
is_hidden_pair a b = (a == 194 && is_within 128 159 b) || (a == 216 && b == 156)

-- U+200B to U+200F, which have no width or give a direction; U+2028 to U+202E, separators of lines and paragraphs, and directions; U+2060
-- to U+206F, which have no width or isolate a direction; and U+FEFF, which has no width (three bytes each)
abbrev pub is_hidden_triple : ℕ → ℕ → ℕ → Bool
is_hidden_triple a b c =
    (a == 226 && b == 128 && (is_within 139 143 c || is_within 168 174 c))
    || (a == 226 && b == 129 && is_within 160 175 c)
    || (a == 239 && b == 187 && c == 191)

-- a hidden character of two bytes, or of three, begins with this byte before these
abbrev pub begins_pair : ℕ → List ℕ → Bool
begins_pair a [] = false
begins_pair a (b ∷ bs) = is_hidden_pair a b

abbrev pub begins_triple : ℕ → List ℕ → Bool
begins_triple a [] = false
begins_triple a (b ∷ []) = false
begins_triple a (b ∷ c ∷ bs) = is_hidden_triple a b c

-- how many bytes the hidden character has that begins a text; 0 where none does
unfoldable pub hidden_length : Extent → ℕ → List ℕ → ℕ
hidden_length extent a bs =
    if is_control extent a then 1 else if begins_pair a bs then 2 else if begins_triple a bs then 3 else 0

-- what is shown of a byte with which a hidden character of `count` bytes begins
abbrev pub sign : ℕ → ℕ → ℕ
sign zero b = b
sign (suc more) b = 63

-- the text after the next `left` bytes, which are those of a hidden character
abbrev pub masked_after : Extent → ℕ → List ℕ → List ℕ
masked_after extent left [] = []
masked_after extent (suc left) (b ∷ bs) = masked_after extent left bs
masked_after extent zero (b ∷ bs) = sign (hidden_length extent b bs) b ∷ masked_after extent (pred (hidden_length extent b bs)) bs

-- what a terminal is given of a text
abbrev pub masked : Extent → List ℕ → List ℕ
masked extent bytes = masked_after extent 0 bytes

-- a byte with which no hidden character begins
abbrev pub is_plain : Extent → ℕ → Bool
is_plain extent b = not (is_control extent b || b == 194 || b == 216 || b == 226 || b == 239)
