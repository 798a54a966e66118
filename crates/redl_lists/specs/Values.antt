-- Values of properties (ECMA-376 Part 1, 17.17.4 for what is on).
use Rattle.std.specs.Prelude.{ℕ, ◌||◌, not, Bool, true, false, List, codes, bytes_eq, Option, Some, None}
use Rattle.std.specs.Prelude.{option_and_then}
use Rattle.redl_tree.specs.Model.Nodes.{Nodes}
use Rattle.redl_tree.specs.Model.View.{Element}
use Rattle.redl_stamp.specs.Attribute.{attribute_value}
use Rattle.redl_numerals.specs.Numbers.{number_of}
use Rattle.redl_numerals.specs.declared.number.Number.{Number}
use Rattle.redl_lists.specs.Named.{first_named}

-- an attribute of an element, decoded
abbrev pub value_at : List ℕ → Element → Option (List ℕ)
value_at local e = attribute_value e.tag.tail local

-- the value of a property
abbrev pub value : Element → Option (List ℕ)
value e = value_at (codes "val") e

-- a number that an attribute is
abbrev pub number_at : List ℕ → Element → Option Number
number_at local e = option_and_then number_of (value_at local e)

-- of the first element with this name among these
abbrev pub kid_value : List ℕ → Nodes → Option (List ℕ)
kid_value name kids = option_and_then value (first_named name kids)

abbrev pub kid_number : List ℕ → Nodes → Option Number
kid_number name kids = option_and_then number_of (kid_value name kids)

-- what a property says that is on or off
abbrev pub is_off : List ℕ → Bool
is_off text = bytes_eq text (codes "0") || (bytes_eq text (codes "false") || bytes_eq text (codes "off"))

-- on, where nothing is said
abbrev pub on_unless : Option (List ℕ) → Bool
on_unless None = true
on_unless (Some text) = not (is_off text)

-- an attribute that is on: off, where there is none
abbrev pub on_if : Option (List ℕ) → Bool
on_if None = false
on_if (Some text) = not (is_off text)

abbrev pub is_on : Option Element → Bool
is_on None = false
is_on (Some e) = on_unless (value e)
