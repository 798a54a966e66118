-- Numbers that belong together by pairs: the smallest equivalence that holds the pairs.
use Rattle.std.specs.Prelude.{ℕ, ◌≤◌, List, Contains}
use Rattle.redl_classes.specs.declared.pair.Pair.{Pair}

-- two numbers belong together: they are a pair, or this follows from pairs
pub data Together (pairs : List Pair) : ℕ → ℕ → Type 0 where
  paired : (pair : Pair) → Contains pairs pair → Together pairs pair.one pair.two
  itself : (one : ℕ) → Together pairs one one
  turned : {one two : ℕ} → Together pairs one two → Together pairs two one
  through : {one two three : ℕ} → Together pairs one two → Together pairs two three → Together pairs one three

-- a number is the least one of those that another belongs to
pub record IsLeast (pairs : List Pair) (number least : ℕ) : Type 0 where
  pub together : Together pairs number least
  pub first : (other : ℕ) → Together pairs number other → least ≤ other
