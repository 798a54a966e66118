-- Numbers that lead to a lesser one of those that they belong to, as the code keeps them.
use Rattle.std.specs.Prelude.{◌≡◌, ◌≤◌, ◌<◌, ℕ, List, length, slice_index}

-- each number leads to itself or to a lesser one
abbrev pub IsForest : List ℕ → Type 0
IsForest parents = (number : ℕ) → slice_index parents number ≤ number

-- each number has the label of the one that it leads to, and itself where it leads to itself
pub record IsLabelled (parents labels : List ℕ) : Type 0 where
  pub count : length labels ≡ length parents
  pub way : (number : ℕ) → number < length parents → slice_index labels (slice_index parents number) ≡ slice_index labels number
  pub end : (number : ℕ) → number < length parents → slice_index parents number ≡ number → slice_index labels number ≡ number
