-- What the rules ask of a tag's attributes, by the tag's tail, and the rules with this (Namespaces in XML 1.0; the
-- rules are our own).
use Rattle.std.specs.Prelude.{ℕ, List, [], Bool, ◌&&◌, ◌||◌, bytes_eq, codes, is_some, Option}
use Rattle.std.specs.List.{list_any}
use Rattle.redl_grammar.specs.Names.{Name}
use Rattle.redl_markup.specs.Attributes.{attributes_of}
use Rattle.redl_stamp.specs.Attribute.{attribute_value}
use Rattle.redl_tree.specs.Model.Nodes.{Nodes}
use Rattle.redl_tree.specs.Rules.Tests.{Test}
use Rattle.redl_tree.specs.Rules.Sound.{tests, broken}

-- an attribute with the local name `id`, and with any prefix but that of declarations
abbrev pub has_id : List ℕ → Bool
has_id tail = is_some (attribute_value tail (codes "id"))

-- an attribute that is named `xmlns`, or has this prefix
abbrev pub is_declaration : Name × List ℕ → Bool
is_declaration attribute =
    bytes_eq attribute.0.prefix (codes "xmlns")
    || bytes_eq attribute.0.prefix [] && bytes_eq attribute.0.local (codes "xmlns")

-- some attribute declares a namespace
abbrev pub declares : List ℕ → Bool
declares tail = list_any is_declaration (attributes_of tail)

-- the rules in their order
abbrev pub rules : List Test
rules = tests has_id declares

-- the least rule that a package breaks
abbrev pub broken_rule : Nodes → Option ℕ
broken_rule nodes = broken rules nodes
