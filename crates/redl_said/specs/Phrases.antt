-- The beginning of a text as a listing shows it: a stretch of white space is one space, and where the text has more characters
-- than there is room for, three dots stand for the rest (our own rule). Texts are UTF-8.
use Rattle.std.specs.Prelude.{ℕ, ◌-◌, ◌==◌, ◌||◌, ◌&&◌, nat_le, nat_lt, not, Bool, true, false, List, [], ◌∷◌, ◌++◌, Option, None, Some, if◌then◌else◌}

-- what is kept of a text so far: the characters, for how many more there is room, whether white space came last, and whether
-- there were more
pub record Kept : Type 0 where
  pub text : List ℕ
  pub room : ℕ
  pub gap : Bool
  pub over : Bool

-- white space (XML 1.0, 2.3)
abbrev pub is_white : ℕ → Bool
is_white b = b == 32 || b == 9 || b == 10 || b == 13

-- a byte with which no character begins (RFC 3629)
abbrev pub is_inner : ℕ → Bool
is_inner b = nat_le 128 b && nat_lt b 192

-- a byte that is kept as it is, where a space came last or not: no other white space, no second space, and no inner byte after a space
abbrev pub fits : Bool → ℕ → Bool
fits space b = not ((space && (b == 32 || is_inner b)) || b == 9 || b == 10 || b == 13)

-- where all bytes are kept as they are (and those before them, `even`), whether a space comes last
abbrev pub even_from : Bool → Bool → List ℕ → Option Bool
even_from even space [] = if even then Some space else None
even_from even space (b ∷ bs) = even_from (even && fits space b) (b == 32) bs

-- one character more begins with this byte
unfoldable pub begun : Kept → ℕ → Bool → Kept
begun kept b white =
    if kept.room == 0 then record kept { over = true }
    else record kept { text = kept.text ++ b ∷ []; room = kept.room - 1; gap = white }

-- white space comes
unfoldable pub paused : Kept → Kept
paused kept = if kept.gap || kept.room == 0 then kept else begun kept 32 true

-- one byte more
unfoldable pub heard_byte : Kept → ℕ → Kept
heard_byte kept b =
    if kept.over then kept
    else if is_white b then paused kept
    else if is_inner b then record kept { text = kept.text ++ b ∷ [] }
    else begun kept b false

-- more bytes
abbrev pub heard : Kept → List ℕ → Kept
heard kept [] = kept
heard kept (b ∷ bs) = heard (heard_byte kept b) bs

-- nothing so far; white space at the beginning is left out where `gap` is true
abbrev pub nothing_heard : ℕ → Bool → Kept
nothing_heard room gap = record { text = []; room = room; gap = gap; over = false }

-- what is kept, with three dots for the rest (U+2026)
abbrev pub kept_text : Kept → List ℕ
kept_text kept = if kept.over then kept.text ++ 226 ∷ 128 ∷ 166 ∷ [] else kept.text
