-- Leading words of a list, and the longest leading run whose elements pass a test.
use Rattle.std.specs.Prelude.{◌≡◌, ◌<◌, ℕ, ◌-◌, Bool, true, false, ◌==◌, ◌&&◌, ◌||◌, List, [], ◌∷◌, length, take, Option, Some, None, if◌then◌else◌, not}
use Rattle.redl_reading.specs.Steps.{or_else, ◌>>=◌}

-- what follows a leading word
abbrev pub behind : List ℕ → List ℕ → Option (List ℕ)
behind [] bs = Some bs
behind (w ∷ ws) [] = None
behind (w ∷ ws) (b ∷ bs) = if b == w then behind ws bs else None

-- the bytes begin with this word
abbrev pub begins : List ℕ → List ℕ → Bool
begins [] bs = true
begins (w ∷ ws) [] = false
begins (w ∷ ws) (b ∷ bs) = b == w && begins ws bs

-- the word occurs nowhere
abbrev pub lacks : List ℕ → List ℕ → Bool
lacks word [] = not (begins word [])
lacks word (b ∷ bs) = not (begins word (b ∷ bs)) && lacks word bs

-- what follows the first occurrence of the word
abbrev pub past : List ℕ → List ℕ → Option (List ℕ)
past word [] = None
past word (b ∷ bs) = or_else (behind word (b ∷ bs)) (past word bs)

-- the longest leading run of elements that pass, and what follows it
abbrev pub front : (ℕ → Bool) → List ℕ → List ℕ
front p [] = []
front p (b ∷ bs) = if p b then b ∷ front p bs else []

abbrev pub after : (ℕ → Bool) → List ℕ → List ℕ
after p [] = []
after p (b ∷ bs) = if p b then after p bs else b ∷ bs

-- the calls of a test, told by `Told`, answer as `p` does at each byte
abbrev pub AnswersAs : (ℕ → Bool) → (ℕ → Bool → Type 0) → Type 0
AnswersAs p Told = (b : ℕ) (t : Bool) → b < 256 → Told b t → p b ≡ t

-- what comes before a rest
abbrev pub before : List ℕ → List ℕ → List ℕ
before bs rest = take (length bs - length rest) bs

-- there is a byte
abbrev pub is_filled : List ℕ → Bool
is_filled [] = false
is_filled (b ∷ bs) = true

-- another byte than this one
abbrev pub is_other : ℕ → ℕ → Bool
is_other a b = not (b == a)

-- none of three bytes
abbrev pub is_none_of : ℕ → ℕ → ℕ → ℕ → Bool
is_none_of a b c x = not (x == a || x == b || x == c)

-- the bytes before the first byte `end`, and those after it
unfoldable pub field_at : ℕ → List ℕ → Option (List ℕ × List ℕ)
field_at end bs = do
  rest ← behind (end ∷ []) (after (is_other end) bs)
  Some (front (is_other end) bs, rest)
