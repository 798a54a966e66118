-- The least number of those that belong together, one pair after the other.
use Rattle.std.specs.Prelude.{ℕ, ◌<◌, ◌==◌, ◌||◌, min, List, length, map, fold, slice_index, if◌then◌else◌}
use Rattle.std.specs.List.{range_with_len}
use Rattle.redl_classes.specs.Together.{IsLeast}
use Rattle.redl_classes.specs.declared.pair.Pair.{Pair}

-- the numbers of a pair are some of the first ones, of which there are so many
pub record IsBelow (count : ℕ) (pair : Pair) : Type 0 where
  pub one : pair.one < count
  pub two : pair.two < count

-- what has the one label or the other gets the lesser of both
abbrev pub merged : ℕ → ℕ → ℕ → ℕ
merged one two label = if (label == one) || (label == two) then min one two else label

-- the labels of numbers, after one pair more
abbrev pub joined : List ℕ → Pair → List ℕ
joined labels pair = map (merged (slice_index labels pair.one) (slice_index labels pair.two)) labels

-- before any pair each number has itself as its label; after all pairs it has the least number that it belongs to
abbrev pub least_numbers_of : ℕ → List Pair → List ℕ
least_numbers_of count pairs = fold joined (range_with_len 0 count) pairs

-- each of the first numbers has the least one of those that it belongs to
abbrev pub AreLeast : List Pair → List ℕ → Type 0
AreLeast pairs numbers = (number : ℕ) → number < length numbers → IsLeast pairs number (slice_index numbers number)
