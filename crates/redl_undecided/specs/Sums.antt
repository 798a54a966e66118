-- Sums of 64 bits that stay at the greatest one.
use Rattle.std.specs.Prelude.{◌≡◌, ℕ, ◌+◌, ◌-◌, ◌^◌, List, ◌++◌, min, length}
use Rattle.std.proofs.Common.{arith, length-append}

abbrev pub limited : ℕ → ℕ
limited n = min n (2 ^ 64 - 1)

-- what was counted in a text and then in another one was counted in both
pub limited-then : (old mid new : ℕ) (first rest : List ℕ) → limited mid ≡ limited (old + length first) → limited new ≡ limited (mid + length rest)
    → limited new ≡ limited (old + length (first ++ rest))
limited-then old mid new first rest p q = omega (arith, p, q, length-append first rest)
