-- The values of properties that are said whole. Of several elements the last one counts, but tab stops and columns are lists.
use Rattle.std.specs.Prelude.{ℕ, ◌-◌, ◌||◌, Bool, true, false, List, [], ◌∷◌, length, slice_get, bytes_eq, codes, Option, None, Some}
use Rattle.redl_properties.specs.Leaves.{last_value}
use Rattle.redl_properties.specs.declared.attribute.Attribute.{Attribute}
use Rattle.redl_properties.specs.declared.property.Way.{Way}
use Rattle.redl_properties.specs.declared.property.Way.TheVariants.{Toggle, Border, Shade, Tabs, Width, Height, Merge, Flags, Columns}
use Rattle.redl_properties.specs.declared.value.Value.{Value}
use Rattle.redl_properties.specs.declared.value.Value.TheVariants.{Absent, Text, Leaves}

-- the properties that are said whole, and not by their attributes
abbrev pub is_whole : Way → Bool
is_whole Toggle = true
is_whole Border = true
is_whole Shade = true
is_whole Tabs = true
is_whole Width = true
is_whole Height = true
is_whole Merge = true
is_whole Flags = true
is_whole Columns = true
is_whole _ = false

-- the value switches its property off (ECMA-376 Part 1, 17.17.4)
abbrev pub is_off : Option (List ℕ) → Bool
is_off None = false
is_off (Some value) = bytes_eq value (codes "0") || bytes_eq value (codes "false") || bytes_eq value (codes "off")

abbrev pub switch_text : Bool → List ℕ
switch_text true = codes "off"
switch_text false = codes "on"

-- a toggle is on or off
abbrev pub toggle_value : Option (List Attribute) → Value
toggle_value None = Absent
toggle_value (Some attributes) = Text (switch_text (is_off (last_value (codes "val") attributes)))

-- one element
abbrev pub leaf_value : Option (List Attribute) → Value
leaf_value None = Absent
leaf_value (Some attributes) = Leaves (attributes ∷ [])

-- all of them
abbrev pub many_value : List (List Attribute) → Value
many_value [] = Absent
many_value (leaf ∷ more) = Leaves (leaf ∷ more)

abbrev pub last_leaf : List (List Attribute) → Option (List Attribute)
last_leaf leaves = slice_get leaves (length leaves - 1)

-- the value of a property that is said so, given its elements
abbrev pub whole_value : Way → List (List Attribute) → Value
whole_value Toggle leaves = toggle_value (last_leaf leaves)
whole_value Tabs leaves = many_value leaves
whole_value Columns leaves = many_value leaves
whole_value _ leaves = leaf_value (last_leaf leaves)
