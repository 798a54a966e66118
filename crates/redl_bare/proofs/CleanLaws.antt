-- Bytes that show themselves and are written as they are, block by block.
use Rattle.std.proofs.Common.{◌≡◌, ℕ, ◌+◌, ◌*◌, ltb, eqb, Bool, true, false, not, ◌&&◌, ◌||◌, cond, List, [], ◌∷◌, map, refl, ◌∙◌, arith}
use Rattle.std.proofs.lemmas.Bool.Decides.{nat_tests}
use Rattle.std.specs.List.{list_all}
use Rattle.std.specs.Simd.Lanes.{mask_l}

-- a byte that isn't one
abbrev pub is_met : ℕ → Bool
is_met b = ltb b 14 || eqb b 38 || eqb b 60 || eqb b 92

mask_step : (t rest : Bool) (m : ℕ) → eqb m 0 ≡ rest → eqb (cond t 1 0 + 2 * m) 0 ≡ (not t && rest)
mask_step true rest m e = one where
  one : eqb (1 + 2 * m) 0 ≡ false
  one = grind (arith, nat_tests)
mask_step false rest m e = doubled ∙ e where
  doubled : eqb (0 + 2 * m) 0 ≡ eqb m 0
  doubled = grind (arith, nat_tests)

-- no bit is set if no byte passes
pub none_met : (p : ℕ → Bool) (block : List ℕ) → eqb (mask_l (map p block)) 0 ≡ list_all (λ b. not (p b)) block
none_met p [] = refl
none_met p (b ∷ more) = mask_step (p b) _ _ (none_met p more)
