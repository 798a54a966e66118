-- The decoded value of a tag's attribute, found by its local name (Namespaces in XML 1.0; ECMA-376 Part 1, 17.13.5).
use Rattle.std.specs.Prelude.{ℕ, List, Bool, ◌&&◌, not, bytes_eq, codes, find, Option, Some, None, if◌then◌else◌}
use Rattle.std.specs.Option.{option_map}
use Rattle.redl_grammar.specs.Names.{Name}
use Rattle.redl_markup.specs.Attributes.{attributes_of}
use Rattle.redl_markup.specs.Decoding.{decoded_value}

-- the prefix is not that of declarations
abbrev pub is_prefix_of_attributes : List ℕ → Bool
is_prefix_of_attributes prefix = not (bytes_eq prefix (codes "xmlns"))

-- the attribute has this local name, and any prefix or none but that of declarations
abbrev pub has_local_name : List ℕ → Name × List ℕ → Bool
has_local_name local attribute = bytes_eq attribute.0.local local && is_prefix_of_attributes attribute.0.prefix

-- its value, as it is written, if the attribute has this local name
abbrev pub own_value : List ℕ → Name × List ℕ → Option (List ℕ)
own_value local attribute = if has_local_name local attribute then Some attribute.1 else None

-- the value, as it is written, of the first attribute of the tail with this local name
abbrev pub written_value : List ℕ → List ℕ → Option (List ℕ)
written_value tail local = option_map (λ attribute. attribute.1) (find (has_local_name local) (attributes_of tail))

-- the same value, decoded
abbrev pub attribute_value : List ℕ → List ℕ → Option (List ℕ)
attribute_value tail local = option_map decoded_value (written_value tail local)
