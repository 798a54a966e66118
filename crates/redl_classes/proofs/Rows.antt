-- Worked rows: the least numbers of pairs, by computing.
use Rattle.std.proofs.Common.{◌≡◌, ℕ, [], ◌∷◌, refl}
use Rattle.redl_classes.specs.Least.{least_numbers_of}
use Rattle.redl_classes.specs.declared.pair.Pair.{Pair}

pair : ℕ → ℕ → Pair
pair one two = record { one = one; two = two }

no_pair : least_numbers_of 3 [] ≡ 0 ∷ 1 ∷ 2 ∷ []
no_pair = refl

-- a pair in any order, and one that says nothing
in_any_order : least_numbers_of 4 (pair 3 1 ∷ pair 2 2 ∷ []) ≡ 0 ∷ 1 ∷ 2 ∷ 1 ∷ []
unfolding pair
in_any_order = refl

-- what follows from pairs: 4 belongs to 2 by 3, and then both to 1 by 4
by_others : least_numbers_of 6 (pair 3 4 ∷ pair 2 3 ∷ pair 5 0 ∷ pair 4 1 ∷ []) ≡ 0 ∷ 1 ∷ 1 ∷ 1 ∷ 1 ∷ 0 ∷ []
unfolding pair
by_others = refl
