-- Values of properties: which are the same.
use Rattle.std.specs.Prelude.{ℕ, zero, suc, ◌==◌, ◌&&◌, Bool, true, false, List, length, slice_get, bytes_eq, Option, Some}
use Rattle.redl_properties.specs.declared.attribute.Attribute.{Attribute}
use Rattle.redl_properties.specs.declared.value.Value.{Value}
use Rattle.redl_properties.specs.declared.value.Value.TheVariants.{Absent, Text, Leaves}

-- one name and one value
abbrev pub same_attribute : Attribute → Attribute → Bool
same_attribute one two = bytes_eq one.name two.name && bytes_eq one.value two.value

abbrev pub same_at : Option Attribute → Option Attribute → Bool
same_at (Some one) (Some two) = same_attribute one two
same_at _ _ = false

-- as many attributes, and the first ones are the same
abbrev pub are_same_upto : List Attribute → List Attribute → ℕ → Bool
are_same_upto one two zero = length one == length two
are_same_upto one two (suc place) = are_same_upto one two place && same_at (slice_get one place) (slice_get two place)

-- the same attributes
abbrev pub are_same : List Attribute → List Attribute → Bool
are_same one two = are_same_upto one two (length one)

abbrev pub same_leaf_at : Option (List Attribute) → Option (List Attribute) → Bool
same_leaf_at (Some one) (Some two) = are_same one two
same_leaf_at _ _ = false

-- as many elements, and the first ones are the same
abbrev pub same_leaves_upto : List (List Attribute) → List (List Attribute) → ℕ → Bool
same_leaves_upto one two zero = length one == length two
same_leaves_upto one two (suc place) = same_leaves_upto one two place && same_leaf_at (slice_get one place) (slice_get two place)

-- the same elements
abbrev pub same_leaves : List (List Attribute) → List (List Attribute) → Bool
same_leaves one two = same_leaves_upto one two (length one)

-- the same value
abbrev pub same_value : Value → Value → Bool
same_value Absent Absent = true
same_value (Text one) (Text two) = bytes_eq one two
same_value (Leaves one) (Leaves two) = same_leaves one two
same_value _ _ = false
