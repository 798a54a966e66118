-- How the list of first numbers is filled: from the last pair to the first, so that of several pairs with one second number
-- the first one is left.
use Rattle.std.specs.Prelude.{ℕ, zero, suc, List, [], ◌∷◌, slice_set}

-- the list with this first number at the place of this second number, where it has that place
abbrev pub with_number : ℕ → ℕ → List ℕ → List ℕ
with_number zero first back = back
with_number (suc place) first back = slice_set back place first

-- the list with the numbers of these pairs, those of the last pair first
abbrev pub with_pairs : List (ℕ × ℕ) → List ℕ → List ℕ
with_pairs [] back = back
with_pairs (pair ∷ pairs) back = with_number pair.0 pair.1 (with_pairs pairs back)
