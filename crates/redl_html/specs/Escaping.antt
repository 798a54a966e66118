-- How texts from outside are put into the page: as the text of elements, and in attribute values between quotes (HTML, the living
-- standard, 13.1.2.3, 13.1.3 and 13.1.4). Six characters are written as references: the five of markup, and the carriage return, which
-- a browser would else read as a line feed. A control character of one byte that HTML does not allow is written as U+FFFD (our own
-- rule); those of two bytes, U+0080 to U+009F, stay as they are, since names may have them.
use Rattle.std.specs.Prelude.{ℕ, ◌==◌, ◌&&◌, ◌||◌, not, nat_lt, Bool, true, false, List, [], ◌∷◌, codes, if◌then◌else◌}
use Rattle.std.specs.List.{flat_map}
use Rattle.redl_reading.specs.Lists.{begins}

-- U+FFFD in UTF-8
abbrev pub replacement : List ℕ
replacement = 0xEF ∷ 0xBF ∷ 0xBD ∷ []

-- a control character of one byte that HTML does not allow: all but tab, line feed, form feed and carriage return
abbrev pub is_control : ℕ → Bool
is_control b = (nat_lt b 32 && not (b == 9 || b == 10 || b == 12 || b == 13)) || b == 127

-- what a byte of a text is written as
abbrev pub byte_escaped : ℕ → List ℕ
byte_escaped b =
    if b == 38 then codes "&amp;"
    else if b == 60 then codes "&lt;"
    else if b == 62 then codes "&gt;"
    else if b == 34 then codes "&quot;"
    else if b == 39 then codes "&#39;"
    else if b == 13 then codes "&#13;"
    else if is_control b then replacement
    else b ∷ []

-- a text from outside, as it is written in the page
abbrev pub escaped : List ℕ → List ℕ
escaped text = flat_map byte_escaped text

-- a byte that is written as it is
abbrev pub is_plain : ℕ → Bool
is_plain b = not (b == 38 || b == 60 || b == 62 || b == 34 || b == 39 || b == 13 || is_control b)

-- ---- what is safe in the text of an element and between quotes

-- one of the six references begins here
abbrev pub begins_reference : List ℕ → Bool
begins_reference bs =
    begins (codes "&amp;") bs || begins (codes "&lt;") bs || begins (codes "&gt;") bs || begins (codes "&quot;") bs || begins (codes "&#39;") bs || begins (codes "&#13;") bs

-- no `<`, no `>`, no quote, and a `&` only where one of the six references begins
abbrev pub is_safe_here : ℕ → List ℕ → Bool
is_safe_here b bs = not (b == 60) && not (b == 62) && not (b == 34) && not (b == 39) && (not (b == 38) || begins_reference (b ∷ bs))

abbrev pub is_safe : List ℕ → Bool
is_safe [] = true
is_safe (b ∷ bs) = is_safe_here b bs && is_safe bs
