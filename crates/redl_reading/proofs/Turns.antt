-- A loop that reads in turns.
use Rattle.std.proofs.Common.{◌≡◌, ℕ, zero, suc, ◌<◌, Option, Some, refl, sym, arith}
use Rattle.redl_reading.specs.Steps.{Turn, done, next, turn, turns}

-- from this state the loop still gives the whole answer
pub record Going {S R : Type 0} (step : S → Turn S R) (size : S → ℕ) (s : S) (whole : Option R) : Type 0 where
  pub fuel : ℕ
  pub enough : size s < fuel
  pub same : turns step fuel s ≡ whole

-- before its first turn the loop gives the whole answer
pub begins : {S R : Type 0} (step : S → Turn S R) (size : S → ℕ) (s : S) → Going step size s (turns step (suc (size s)) s)
begins step size s = record { fuel = suc (size s); enough = omega arith; same = refl }

-- after a turn that goes on the loop still gives the whole answer
pub goes_on : {S R : Type 0} (step : S → Turn S R) (size : S → ℕ) (s s' : S) (whole : Option R) → Going step size s whole → step s ≡ next s' → size s' < size s → Going step size s' whole
goes_on step size s s' whole g e lt = by_fuel g.fuel g.enough g.same where
  by_fuel : (n : ℕ) → size s < n → turns step n s ≡ whole → Going step size s' whole
  by_fuel zero enough same = absurd (omega arith)
  by_fuel (suc n) enough same = record { fuel = n; enough = omega arith; same = rw e at same }

-- a turn that ends gives the whole answer
pub ends : {S R : Type 0} (step : S → Turn S R) (size : S → ℕ) (s : S) (r whole : Option R) → Going step size s whole → step s ≡ done r → whole ≡ r
ends step size s r whole g e = by_fuel g.fuel g.enough g.same where
  by_fuel : (n : ℕ) → size s < n → turns step n s ≡ whole → whole ≡ r
  by_fuel zero enough same = absurd (omega arith)
  by_fuel (suc n) enough same = sym (rw e at same)

-- if each turn leaves less, any number of turns above the length gives the same answer
pub enough : {S R : Type 0} (step : S → Turn S R) (size : S → ℕ) → ((s s' : S) → step s ≡ next s' → size s' < size s) → (n m : ℕ) (s : S) (r : R) → turns step n s ≡ Some r → size s < m → turns step m s ≡ Some r
enough {S = S} {R = R} step size shrinks zero m s r e lt = absurd cc
enough {S = S} {R = R} step size shrinks (suc n) zero s r e lt = absurd (omega arith)
enough {S = S} {R = R} step size shrinks (suc n) (suc m) s r e lt = by_turn (step s) (shrinks s) e lt (enough step size shrinks n m) where
  by_turn : (t : Turn S R) → ((s' : S) → t ≡ next s' → size s' < size s) → turn t (turns step n) ≡ Some r → size s < suc m → ((s' : S) (r' : R) → turns step n s' ≡ Some r' → size s' < m → turns step m s' ≡ Some r') → turn t (turns step m) ≡ Some r
  by_turn (done o) falls e lt go = e
  by_turn (next s') falls e lt go = let less = falls s' refl in go s' r e (omega arith)
