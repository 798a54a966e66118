-- Lists in the order of a number that each element has. Elements with one number stay in their order.
use Rattle.std.specs.Prelude.{ℕ, ◌≤◌, nat_le, List, [], ◌∷◌, if◌then◌else◌}

-- an element that comes before all of these
abbrev pub placed_in : {X : Type 0} → (X → ℕ) → X → List X → List X
placed_in key x [] = x ∷ []
placed_in key x (y ∷ more) = if nat_le (key x) (key y) then x ∷ y ∷ more else y ∷ placed_in key x more

abbrev pub in_order : {X : Type 0} → (X → ℕ) → List X → List X
in_order key [] = []
in_order key (x ∷ more) = placed_in key x (in_order key more)

-- ---- lists in such an order

-- none of them is below this number
abbrev pub Above : {X : Type 0} → (X → ℕ) → ℕ → List X → Type 0
Above key n [] = Unit {0}
Above key n (x ∷ more) = (n ≤ key x) × Above key n more

abbrev pub Rises : {X : Type 0} → (X → ℕ) → List X → Type 0
Rises key [] = Unit {0}
Rises key (x ∷ more) = Above key (key x) more × Rises key more
