-- Reading a name from the left.
use Rattle.std.specs.Prelude.{ℕ, suc, Bool, false, ◌&&◌, nat_le, List, [], length, drop, Option, Some, None, if◌then◌else◌, codes}
use Rattle.bstr.specs.Utf8.{decoded}
use Rattle.redl_reading.specs.Lists.{behind, before}
use Rattle.redl_reading.specs.Steps.{◌>>=◌, Turn, done, next, turns}
use Rattle.redl_grammar.specs.Names.{may_start, may_follow, Name}

abbrev pub char_with_rest : Option ℕ → List ℕ → Option (ℕ × List ℕ)
char_with_rest None rest = None
char_with_rest (Some c) rest = Some (c, rest)

-- the first character
unfoldable pub char_at : List ℕ → Option (ℕ × List ℕ)
char_at bs = char_with_rest (decoded bs).char (drop (decoded bs).size bs)

abbrev pub after_char : Bool → List ℕ → Option (ℕ × List ℕ) → Turn (List ℕ) (List ℕ)
after_char colons bs None = done (Some bs)
after_char colons bs (Some x) = if may_follow colons x.0 then next x.1 else done (Some bs)

unfoldable pub name_step : Bool → List ℕ → Turn (List ℕ) (List ℕ)
name_step colons bs = after_char colons bs (char_at bs)

-- an ASCII character that may follow the first one of a name
unfoldable pub is_name_byte : Bool → ℕ → Bool
is_name_byte colons b = nat_le b 127 && may_follow colons b

-- what follows name characters
unfoldable pub name_end : Bool → List ℕ → Option (List ℕ)
name_end colons bs = turns (name_step colons) (suc (length bs)) bs

-- what follows the first character of a name
unfoldable pub behind_start : Bool → List ℕ → Option (List ℕ)
behind_start colons bs = do
  x ← char_at bs
  if may_start colons x.0 then Some x.1 else None

-- a name of one part
unfoldable pub word_at : Bool → List ℕ → Option (List ℕ × List ℕ)
word_at colons bs = do
  x ← char_at bs
  rest ← name_end colons x.1
  if may_start colons x.0 then Some (before bs rest, rest) else None

abbrev pub local_at : List ℕ → List ℕ → Option (List ℕ) → Option (Name × List ℕ)
local_at word rest None = Some (record { prefix = []; local = word }, rest)
local_at word rest (Some more) = do
  local ← word_at false more
  Some (record { prefix = word; local = local.0 }, local.1)

unfoldable pub name_at : List ℕ → Option (Name × List ℕ)
name_at bs = do
  word ← word_at false bs
  local_at word.0 word.1 (behind (codes ":") word.1)
