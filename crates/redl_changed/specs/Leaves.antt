-- The leaves of a list of properties: its elements without elements in them, at any depth, each with its path and its attributes. A leaf
-- with a long path or a long start tag has none of these, since it is too large to be compared.
use Rattle.std.specs.Prelude.{ℕ, ◌==◌, ◌&&◌, ◌||◌, nat_le, Bool, List, [], ◌∷◌, ◌++◌, length, bytes_eq, codes, Option, None, Some, if◌then◌else◌}
use Rattle.std.specs.List.{list_any}
use Rattle.redl_grammar.specs.Names.{Name}
use Rattle.redl_markup.specs.Attributes.{attributes_of}
use Rattle.redl_markup.specs.Decoding.{decoded_value}
use Rattle.redl_properties.specs.Utf8.{text_or_nothing}
use Rattle.redl_properties.specs.declared.attribute.Attribute.{Attribute}
use Rattle.redl_properties.specs.declared.attribute.Leaf.{Leaf}
use Rattle.redl_tree.specs.Model.IdleTexts.{idle_nodes}
use Rattle.redl_tree.specs.Model.Kids.{has_element}
use Rattle.redl_tree.specs.Model.Nodes.{Tag, Nodes, no_nodes, bytes, element, Item, bytes_item, element_item, idle_item}
use Rattle.redl_tree.specs.declared.kinds.Prop.{Prop}
use Rattle.redl_changed.specs.Paths.{attribute_name, below, is_left_out, name_in_path}

-- ---- attributes

-- it declares a namespace
abbrev pub is_declaration : Name × List ℕ → Bool
is_declaration written =
    bytes_eq written.0.prefix (codes "xmlns") || (length written.0.prefix == 0 && bytes_eq written.0.local (codes "xmlns"))

-- its local name, and its decoded value
abbrev pub attribute_of : List ℕ → Name × List ℕ → Attribute
attribute_of path written = record {
  name = text_or_nothing (attribute_name path written.0.local);
  value = text_or_nothing (decoded_value written.1);
}

abbrev pub has_name : List ℕ → List Attribute → Bool
has_name name list = list_any (λ (attribute : Attribute). bytes_eq attribute.name name) list

-- with one attribute more; of several with one name the first counts
abbrev pub with_attribute : List ℕ → List Attribute → Name × List ℕ → List Attribute
with_attribute path list written =
    if is_declaration written then list
    else if has_name (attribute_of path written).name list then list
    else list ++ attribute_of path written ∷ []

abbrev pub attributes_kept : List ℕ → List Attribute → List (Name × List ℕ) → List Attribute
attributes_kept path list [] = list
attributes_kept path list (written ∷ more) = attributes_kept path (with_attribute path list written) more

-- ---- leaves

-- a path of at most 255 bytes and a tail of at most 2,000 can be compared
abbrev pub is_small : List ℕ → List ℕ → Bool
is_small path tail = nat_le (length path) 255 && nat_le (length tail) 2000

-- the leaf with this path and this tail
abbrev pub small_leaf : List ℕ → List ℕ → Leaf
small_leaf path tail = record { path = text_or_nothing path; attributes = attributes_kept path [] (attributes_of tail) }

abbrev pub leaf_of : List ℕ → List ℕ → Option Leaf
leaf_of path tail = if is_small path tail then Some (small_leaf path tail) else None

abbrev pub path_of : List ℕ → Tag → List ℕ
path_of path tag = below path (name_in_path tag.space tag.prefix tag.local)

-- the leaves of nodes in an element with this path, in a list of such properties
abbrev pub leaves_in : Prop → List ℕ → Nodes → List (Option Leaf)
leaves_in what path no_nodes = []
leaves_in what path (bytes b rest) = leaves_in what path rest
leaves_in what path (element tag kids rest) =
    (if is_left_out what tag.space tag.local then []
    else if has_element kids then leaves_in what (path_of path tag) kids
    else leaf_of (path_of path tag) tag.tail ∷ [])
    ++ leaves_in what path rest

-- the same of an element, and of one node
abbrev pub element_leaves : Prop → List ℕ → Tag → Nodes → List (Option Leaf)
element_leaves what path tag kids =
    if is_left_out what tag.space tag.local then []
    else if has_element kids then leaves_in what (path_of path tag) kids
    else leaf_of (path_of path tag) tag.tail ∷ []

abbrev pub item_leaves : Prop → List ℕ → Item → List (Option Leaf)
item_leaves what path (bytes_item b) = []
item_leaves what path (element_item tag kids) = element_leaves what path tag kids
item_leaves what path (idle_item t) = leaves_in what path (idle_nodes t)
