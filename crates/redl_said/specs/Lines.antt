-- The line of a paragraph: what it says, with one space for each stretch of white space, and none at its beginning; and places
-- in a line (our own rule).
use Rattle.std.specs.Prelude.{ℕ, zero, suc, ◌-◌, ◌+◌, Bool, true, List, [], ◌∷◌, ◌++◌, length, take, drop, if◌then◌else◌}
use Rattle.redl_said.specs.Phrases.{is_white, is_inner}
use Rattle.redl_said.specs.declared.line.LinePlace.{LinePlace}

-- what one byte adds to a line, where white space came before or not
abbrev pub in_line : Bool → ℕ → List ℕ
in_line gap b = if is_white b then (if gap then [] else 32 ∷ []) else b ∷ []

-- bytes with one space for each stretch of white space
abbrev pub spaced : Bool → List ℕ → List ℕ
spaced gap [] = []
spaced gap (b ∷ bs) = in_line gap b ++ spaced (is_white b) bs

-- whether white space comes last
abbrev pub ends_white : Bool → List ℕ → Bool
ends_white gap [] = gap
ends_white gap (b ∷ bs) = ends_white (is_white b) bs

-- a line that is being made
pub record Drawn : Type 0 where
  pub text : List ℕ
  pub gap : Bool

abbrev pub drawn : Drawn → List ℕ → Drawn
drawn line bytes = record { text = line.text ++ spaced line.gap bytes; gap = ends_white line.gap bytes }

-- the line that says these bytes
abbrev pub line_of : List ℕ → List ℕ
line_of bytes = spaced true bytes

-- the place where a line begins
abbrev pub line_start : List ℕ → LinePlace
line_start line = record { left = length line; gap = true }

-- the place where it ends
abbrev pub line_end : LinePlace
line_end = record { left = 0; gap = true }

-- the place behind one byte, and behind many
unfoldable pub passed : LinePlace → ℕ → LinePlace
passed place b = record { left = place.left - length (in_line place.gap b); gap = is_white b }

abbrev pub along : LinePlace → List ℕ → LinePlace
along place [] = place
along place (b ∷ bs) = along (passed place b) bs

-- the number of characters
abbrev pub characters_in : List ℕ → ℕ
characters_in [] = 0
characters_in (b ∷ bs) = if is_inner b then characters_in bs else characters_in bs + 1

-- without so many characters at the beginning
abbrev pub without_characters : ℕ → List ℕ → List ℕ
without_characters n [] = []
without_characters zero (b ∷ bs) = if is_inner b then without_characters zero bs else b ∷ bs
without_characters (suc n) (b ∷ bs) = if is_inner b then without_characters (suc n) bs else without_characters n bs

-- the last 160 bytes, among which are the last 40 characters
abbrev pub last_bytes : List ℕ → List ℕ
last_bytes bytes = drop (length bytes - 160) bytes

abbrev pub last_characters : List ℕ → List ℕ
last_characters bytes = without_characters (characters_in (last_bytes bytes) - 40) (last_bytes bytes)

-- the first characters, at most so many
abbrev pub first_characters : ℕ → List ℕ → List ℕ
first_characters n bytes = take (length bytes - length (without_characters n bytes)) bytes

-- up to 40 characters of a line before a place
abbrev pub before : List ℕ → LinePlace → List ℕ
before line place = last_characters (take (length line - place.left) line)

-- up to 40 characters of a line behind a place
abbrev pub behind : List ℕ → LinePlace → List ℕ
behind line place = first_characters 40 (drop (length line - place.left) line)
