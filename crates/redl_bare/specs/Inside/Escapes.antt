-- Texts and their bytes, as the code tells them apart.
use Rattle.std.specs.Prelude.{ℕ, List, [], ◌∷◌, Bool, true, false, ◌==◌, ltb, ◌||◌, not}

-- a byte that is written as it is
abbrev pub is_plain : ℕ → Bool
is_plain b = not (b == 92 || (b == 9 || (b == 10 || b == 13)))

-- a byte that shows itself and is written as it is: no control character up to a carriage return, no `&`, `<` or backslash
abbrev pub is_clean : ℕ → Bool
is_clean b = not (ltb b 14 || b == 38 || b == 60 || b == 92)

abbrev pub is_empty : {A : Type 0} → List A → Bool
is_empty [] = true
is_empty (x ∷ xs) = false
