-- The members `changed` and `changed_more` of the format `full`: an object for each property that a revision changes, at most 20, and how
-- many more there are (our own rule). A value is null where the list doesn't have the property, a text, or a list with an object for each
-- element, of its attributes.
use Rattle.std.specs.Prelude.{ℕ, List, [], ◌∷◌, ◌++◌, codes, decimal, Option, None, Some}
use Rattle.std.specs.List.{flat_map}
use Rattle.json.specs.Token.{Token, begin_object, end_object, begin_array, end_array, key, null as null_token, number as number_token, string as string_token}
use Rattle.serde_json.specs.Data.{Data, Items, Members, null, string, number, unsigned, array, object, member, no_members, item, no_items}
use Rattle.redl_properties.specs.declared.attribute.Attribute.{Attribute}
use Rattle.redl_properties.specs.declared.change.Changed.{Changed}
use Rattle.redl_properties.specs.declared.value.Value.{Value}
use Rattle.redl_properties.specs.declared.value.Value.TheVariants.{Absent, Text, Leaves}

-- a member for each attribute
abbrev pub leaf_members : List Attribute → Members
leaf_members [] = no_members
leaf_members (attribute ∷ more) = member attribute.name (string attribute.value) (leaf_members more)

-- an item for each element
abbrev pub leaf_items : List (List Attribute) → Items
leaf_items [] = no_items
leaf_items (leaf ∷ more) = item (object (leaf_members leaf)) (leaf_items more)

abbrev pub json_value : Value → Data
json_value Absent = null
json_value (Text text) = string text
json_value (Leaves leaves) = array (leaf_items leaves)

-- a property that is changed, its members in the order of their names
abbrev pub json_change : Changed → Data
json_change change =
    object (member (codes "from") (json_value change.from)
    (member (codes "property") (string change.property)
    (member (codes "said") (string change.said)
    (member (codes "to") (json_value change.to) no_members))))

-- an item for each of them, in their order
abbrev pub json_changed : List Changed → Items
json_changed [] = no_items
json_changed (change ∷ more) = item (json_change change) (json_changed more)

-- how many more there are, or null where the lists are too large to be compared
abbrev pub json_more : Option ℕ → Data
json_more None = null
json_more (Some count) = number (unsigned count)

-- ---- the same as it is written

abbrev pub more_token : Option ℕ → Token
more_token None = null_token
more_token (Some count) = number_token (decimal count)

abbrev pub attribute_tokens : Attribute → List Token
attribute_tokens attribute = key attribute.name ∷ string_token attribute.value ∷ []

abbrev pub leaf_tokens : List Attribute → List Token
leaf_tokens leaf = begin_object ∷ (flat_map attribute_tokens leaf ++ end_object ∷ [])

abbrev pub value_tokens : Value → List Token
value_tokens Absent = null_token ∷ []
value_tokens (Text text) = string_token text ∷ []
value_tokens (Leaves leaves) = begin_array ∷ (flat_map leaf_tokens leaves ++ end_array ∷ [])

abbrev pub change_tokens : Changed → List Token
change_tokens change =
    begin_object ∷ key (codes "from") ∷ (value_tokens change.from ++ (key (codes "property") ∷ string_token change.property
    ∷ key (codes "said") ∷ string_token change.said ∷ key (codes "to") ∷ (value_tokens change.to ++ end_object ∷ [])))

-- the whole member
abbrev pub changed_tokens : List Changed → List Token
changed_tokens changes = key (codes "changed") ∷ begin_array ∷ (flat_map change_tokens changes ++ end_array ∷ [])
