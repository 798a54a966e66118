-- What one byte adds to a text in which places for numbers are filled.
use Rattle.std.specs.Prelude.{ℕ, ◌-◌, ◌==◌, ◌&&◌, Bool, false, nat_le, List, [], ◌∷◌, ◌++◌, if◌then◌else◌}

-- a digit from 1 to 9 behind a per cent sign
abbrev pub is_place : Bool → ℕ → Bool
is_place pending b = pending && (nat_le 49 b && nat_le b 57)

abbrev pub unless_sign : ℕ → List ℕ
unless_sign b = if b == 37 then [] else b ∷ []

abbrev pub added : (ℕ → List ℕ) → Bool → ℕ → List ℕ
added part pending b = if is_place pending b then part (b - 49) else (if pending then 37 ∷ [] else []) ++ unless_sign b

-- whether a per cent sign comes last now
abbrev pub opened : Bool → ℕ → Bool
opened pending b = if is_place pending b then false else b == 37
