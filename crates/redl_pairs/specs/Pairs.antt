-- Two bytes, one after the other, that are one of two words.
use Rattle.std.specs.Prelude.{ℕ, Bool, true, not, ◌&&◌, ◌||◌, ◌==◌, List, [], ◌∷◌}

abbrev pub begins_either : ℕ → ℕ → ℕ → ℕ → ℕ → ℕ → Bool
begins_either a b c d x y = (x == a && y == b) || (x == c && y == d)

-- no element of one list passes a test with the one at its place in the other list
abbrev pub lacks_both : (ℕ → ℕ → Bool) → List ℕ → List ℕ → Bool
lacks_both test [] ys = true
lacks_both test (x ∷ xs) [] = true
lacks_both test (x ∷ xs) (y ∷ ys) = not (test x y) && lacks_both test xs ys
